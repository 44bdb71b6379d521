use Rattle.std.proofs.Common.{arith, sym, subst}
use Rattle.tokens.specs.Pieces.{Reads}
use Rattle.tokens.proofs.Lists.{leads_within}
use Rattle.tokens.proofs.Pieced.{iri_read, iri_short, iri_open}
use Rattle.tokens.proofs.lexer.Place.iri.Goals as goal
use Rattle.tokens.proofs.lexer.Place.iri.Goals.{else-end-self-via-then-end-self+else-stands, else-end-self-via-else-end-self}

pub overflow_add-result : goal.overflow_add-result
overflow_add-result c = omega (arith, c.well_formed.0, leads_within 62 c.args.self.text.now c.run_end-end.result c.if-stands.ensures)

pub returns-then-stands : goal.returns-then-stands
returns-then-stands c = iri_read c.args.self.text.now c.args.self.start c.run_end-end.result c.run_end-end.ensures (omega arith) c.if-stands.ensures

pub returns-else-end-self : goal.returns-else-end-self
returns-else-end-self c =
    subst (Reads c.args.self.text.now c.args.self.start _) (sym c.stray.ensures) (elim c.else-end-self.branch [
      | else-end-self-via-then-end-self+else-stands w ↦ iri_open c.args.self.text.now c.args.self.start c.run_end-end.result c.run_end-end.ensures w.if-stands.ensures c.args.self.inside
      | else-end-self-via-else-end-self w ↦ iri_short c.args.self.text.now c.args.self.start c.run_end-end.result c.run_end-end.ensures (omega (arith, w.if-end-self.false)) c.args.self.inside
    ])
