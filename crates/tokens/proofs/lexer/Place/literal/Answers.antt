use Rattle.std.proofs.Common.{arith, sym, subst}
use Rattle.tokens.specs.Pieces.{Reads}
use Rattle.tokens.proofs.Lists.{leads_within}
use Rattle.tokens.proofs.Pieced.{literal_read, literal_open}
use Rattle.tokens.proofs.lexer.Place.literal.Goals as goal

pub overflow_add-result : goal.overflow_add-result
overflow_add-result c = omega (arith, c.well_formed.0, leads_within 34 c.args.self.text.now c.run_end-end.result c.if-stands.ensures)

pub returns-then-stands : goal.returns-then-stands
returns-then-stands c = literal_read c.args.self.text.now c.args.self.start c.run_end-end.result c.run_end-end.ensures c.if-stands.ensures

pub returns-else-stands : goal.returns-else-stands
returns-else-stands c = subst (Reads c.args.self.text.now c.args.self.start _) (sym c.stray.ensures) (literal_open c.args.self.text.now c.args.self.start c.run_end-end.result c.run_end-end.ensures c.if-stands.ensures c.args.self.inside)
