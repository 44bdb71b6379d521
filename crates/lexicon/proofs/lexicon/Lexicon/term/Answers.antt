use Rattle.std.proofs.Common.{◌≡◌, List, length, get_or, sym, ap, ◌∙◌, arith}
use Rattle.terms.specs.declared.kind.Kind.{Kind}
use Rattle.lexicon.specs.Numbering.{tell, term_at}
use Rattle.lexicon.specs.Held.{held}
use Rattle.lexicon.proofs.Numbers.{term_zero, term_past}
use Rattle.lexicon.proofs.Holding.{held_count, term_read}
use Rattle.lexicon.proofs.lexicon.Lexicon.term.Goals as goal

pub returns-in_err-place : goal.returns-in_err-place
returns-in_err-place c =
    let e : c.args.number ≡ 0 = omega arith in
    ap (tell _) c.from_residual.ensures ∙ sym (ap (term_at (held c.args.self.now)) e ∙ term_zero (held c.args.self.now))

pub returns-in_err-kind : goal.returns-in_err-kind
returns-in_err-kind c =
    let l = c.args.self.now in
    ap (tell _) c.from_residual-in_err-kind.ensures ∙ sym (term_past (held l) c.args.number (omega (arith, held_count l, ap length c.as_slice.ensures, c.in_err-kind.ensures.lookup.3)))

pub returns : goal.returns
returns c =
    let l = c.args.self.now in
    let k = c.in_ok-kind.kind.now in
    let i = c.in_ok-place.place in
    let read = c.in_ok-kind.ensures.lookup in
    term_read l c.args.number i k _ (omega arith) (omega (arith, ap length c.as_slice.ensures, read.3.0)) (read.1 ∙ ap (λ (ks : List Kind). get_or ks i k) c.as_slice.ensures) c.bytes_at.ensures
