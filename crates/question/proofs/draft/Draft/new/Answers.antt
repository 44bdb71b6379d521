use Rattle.std.proofs.Common.{length, ap, arith}
use Rattle.room.specs.Items.{items}
use lib.ListN.{length-map}
use Rattle.question.specs.Arena.{term_of}
use Rattle.question.proofs.draft.Draft.new.Goals as goal

pub invariant_of-result-clause-few : goal.invariant_of-result-clause-few
invariant_of-result-clause-few c =
    let b = c.in_ok-built.built in
    omega (arith, ap (λ a. length a.terms) c.in_ok-built.ensures.0, length-map (items b.terms) (term_of (items b.text)))
