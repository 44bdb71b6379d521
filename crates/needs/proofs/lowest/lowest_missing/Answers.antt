use Rattle.std.proofs.Common.{◌≡◌, ◌+◌, ◌-◌, length, Some, refl, ap, rules, tests, arith}
use Rattle.std.proofs.lemmas.Iterator.{YieldsList-from_range}
use Rattle.std.proofs.lemmas.Iterator.Consumers.{YieldsList-at, YieldsList-from_filter}
use Rattle.lexicon.specs.declared.lexicon.Lexicon.{Lexicon}
use Rattle.lexicon.specs.Held.{held}
use Rattle.lexicon.proofs.Holding.{held_few}
use Rattle.store.specs.View.{view}
use Rattle.needs.specs.Needs.{missing, lower_of}
use Rattle.needs.proofs.Lowering.{lowest_all}
use Rattle.needs.proofs.Reducing.{reduced}
use Rattle.needs.proofs.lowest.lowest_missing.Goals as goal

pub overflow_cast-end : goal.overflow_cast-end
overflow_cast-end c = omega (arith, c.count.ensures, held_few c.terms.result.now)

pub overflow_add-end : goal.overflow_add-end
overflow_add-end c = omega (arith, c.count.ensures, held_few c.terms.result.now)

pub returns : goal.returns
returns c =
    let s = view c.args.store.now in
    let ws = c.args.wanted.now in
    let count : c.count.result + 1 - 1 ≡ length s.terms = omega (arith, c.count.ensures, ap (λ (l : Lexicon). length (held l)) c.terms.ensures) in
    lowest_all s ws c.reduce.result
    (reduced _ (λ l x. lower_of s.terms x (Some l)) c.filter.result _ c.reduce.result c.reduce.ensures.ran
    (YieldsList-from_filter _ (missing s ws) (YieldsList-at c.filter.ensures.source (YieldsList-from_range 1 _ (length s.terms) refl count)) c.filter.ensures.closure (λ x b q k. search (rules, tests)))
    (λ p x y q k. search (rules, tests)))
