-- A shelf without the page of m:4, which a question does not need.
use Rattle.std.specs.Prelude.{◌≡◌, cond, List, [], ◌∷◌}
use Rattle.weights.specs.Kinds.{Kind, Lawful}
use Rattle.terms.specs.Terms.{Term}
use Rattle.semantics.specs.Rows.{Row}
use Rattle.semantics.specs.Meaning.{weight_in}
use Rattle.semantics.specs.Webs.{Triple, graph_of, by_bytes}
use Rattle.samples.specs.File.{m1, m2, m3, m4, alt, val, ten, twenty_two, found, graph, value_of_substitutes}

abbrev pub shelf : Term → List (Triple Term)
shelf t = cond (by_bytes.same t m4) [] (found t)

abbrev pub shelved : List Term
shelved = m1 ∷ m2 ∷ m3 ∷ alt ∷ val ∷ ten ∷ twenty_two ∷ []

-- by the law on walks: no page but those of m:1, m:2 and m:3 is needed, so over these the question has the weights that it has over all four
abbrev pub ThreePagesSuffice : Type 0
ThreePagesSuffice =
    (k : Kind) → Lawful k → (m : Row Term)
    → weight_in by_bytes graph k value_of_substitutes m ≡ weight_in by_bytes (graph_of by_bytes shelf shelved) k value_of_substitutes m
