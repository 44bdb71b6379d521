use Rattle.std.proofs.Common.{ℕ, [], ◌∷◌, ◌++◌, ap, ap₂, ◌∙◌}
use Rattle.listing.specs.Text.{term_text}
use Rattle.listing.proofs.Laying.{then, puts_as}
use Rattle.listing.proofs.put.put_term.Goals as goal

pub returns : goal.returns
returns c =
    let marks = ap₂ (λ (a b : ℕ). a ∷ (c.in-Some.bytes.now ++ b ∷ [])) c.opening.ensures c.closing.ensures in
    puts_as (marks ∙ ap term_text c.in-Some.ensures) (then (then c.put-at.ensures c.put-at-2.ensures) c.put.ensures)
