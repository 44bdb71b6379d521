use Rattle.std.proofs.Common.{ap, ap₂, ◌∙◌}
use Rattle.lexicon.specs.declared.lexicon.Lexicon.{Lexicon}
use Rattle.lexicon.specs.Held.{held}
use Rattle.lexicon.specs.Numbering.{term_at}
use Rattle.needs.specs.Needs.{lower}
use Rattle.needs.proofs.Ordering.{is_before}
use Rattle.needs.proofs.lowest.is_lower.Goals as goal

pub returns-in-Some-Some : goal.returns-in-Some-Some
returns-in-Some-Some c =
    let e = c.in-Some-Some.ensures ∙ ap (λ (l : Lexicon). term_at (held l) c.args.a) c.terms.ensures in
    let f = c.in-Some-Some.ensures' ∙ ap (λ (l : Lexicon). term_at (held l) c.args.b) c.terms-2.ensures in
    is_before c.in-Some-Some.x.now c.in-Some-Some.y.now c.lt.result c.lt.ensures ∙ ap₂ lower e f
