use Rattle.std.proofs.Common.{ℕ, sym, ap, ◌∙◌, arith}
use Rattle.std.specs.List.{flat_map}
use Rattle.std.proofs.lemmas.List.{take_all}
use Rattle.std.proofs.lemmas.List.Folds.{flat_map-map}
use Rattle.lexicon.specs.Held.{held}
use Rattle.listing.specs.Text.{place_text}
use Rattle.listing.specs.Written.{tabbed}
use Rattle.listing.proofs.Laying.{then, puts_as, item_more}
use Rattle.listing.proofs.writing.put_places.Goals as goal

pub loop-number-preserved : goal.loop-number-preserved
loop-number-preserved c =
    let f = λ (n : ℕ). tabbed (place_text (held c.args.terms.now) n) in
    puts_as (item_more f c.args.places.now c.loop-number.number-index 0 c.loop-number-test.true)
    (then c.loop-number.invariant (then c.put_term-behind.ensures c.put-behind.ensures))

pub returns : goal.returns
returns c =
    let places = c.args.places.now in
    let f = λ (n : ℕ). tabbed (place_text (held c.args.terms.now) n) in
    let all = ap (flat_map f) (take_all c.loop-number.number-index places (omega arith)) in
    puts_as (all ∙ sym (flat_map-map tabbed (place_text (held c.args.terms.now)) places)) c.loop-number.invariant
