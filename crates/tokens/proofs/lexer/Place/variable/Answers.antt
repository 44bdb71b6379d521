use Rattle.std.proofs.Common.{arith}
use Rattle.tokens.proofs.Pieced.{name_read}
use Rattle.tokens.proofs.lexer.Place.variable.Goals as goal

pub returns-then-end-self : goal.returns-then-end-self
returns-then-end-self c = name_read c.args.self.text.now c.args.self.start c.run_end-end.result c.run_end-end.ensures (omega arith)
