use Rattle.std.proofs.Common.{sym}
use Rattle.tokens.proofs.Pieced.{word_at}
use Rattle.tokens.proofs.lexer.Place.token.Goals as goal

pub returns-in_default : goal.returns-in_default
returns-in_default c = word_at c.args.self.text.now c.args.self.start c.word.result c.args.self.inside (sym c.if-is_word_byte.ensures) c.word.ensures
