-- One walk, round by round: that of the first question about feeders. In each round the bytewise lowest IRI is looked up that is needed over the shelf and
-- not recorded.
use Rattle.std.specs.Prelude.{◌≡◌, ℕ, cond, List, [], ◌∷◌}
use Rattle.weights.specs.Kinds.{Kind, Lawful}
use Rattle.terms.specs.Terms.{Term}
use Rattle.grammar.specs.Syntax.{Pattern}
use Rattle.grammar.specs.Numbered.{numbered}
use Rattle.semantics.specs.Terms.{has}
use Rattle.semantics.specs.Rows.{Row}
use Rattle.semantics.specs.Meaning.{weight_in}
use Rattle.semantics.specs.Webs.{graph_of, Universe, by_bytes}
use Rattle.walks.specs.Needs.{needs}
use Rattle.walks.specs.Promises.{whole}
use Rattle.walks.specs.Shelves.{Told, found, absent, lists_of, shelf_graph, AgreeOn, Course}
use Rattle.samples.specs.Feeders as feeders
use Rattle.samples.specs.Feeders.{b7, c1, c2, c3, f1, f2, place, alt, fits}

-- the four documents, and no others
abbrev pub four : List Term
four = b7 ∷ c1 ∷ c2 ∷ c3 ∷ []

abbrev pub tells : Term → Told Term
tells i = cond (has by_bytes i four) (found (feeders.found i)) absent

abbrev pub question : Pattern Term ℕ
question = numbered feeders.first_names feeders.first

-- what is needed over the shelf of a record, whose terms are these
abbrev pub needed : List Term → List Term → List Term
needed recorded terms = needs by_bytes (shelf_graph by_bytes tells recorded terms) (whole question)

abbrev pub asked : List Term
asked = b7 ∷ place ∷ alt ∷ fits ∷ []

-- Over an empty shelf b:7 is needed, which the question names. Its document names c:1 and c:2, and that of c:1 names c:3; so c:3 is needed before c:2 has
-- been looked up, and is looked up after it. The document of c:3 names two feeders, which no line asks about. So the walk ends.
abbrev pub RoundByRound : Type 0
RoundByRound =
    (needed [] asked ≡ b7 ∷ [])
    × (needed (b7 ∷ []) (c1 ∷ c2 ∷ asked) ≡ b7 ∷ c1 ∷ c2 ∷ [])
    × (needed (c1 ∷ b7 ∷ []) (c1 ∷ c2 ∷ c3 ∷ asked) ≡ b7 ∷ c1 ∷ c2 ∷ c3 ∷ [])
    × (needed (c2 ∷ c1 ∷ b7 ∷ []) (c1 ∷ c2 ∷ c3 ∷ asked) ≡ b7 ∷ c1 ∷ c2 ∷ c3 ∷ [])
    × (needed (c3 ∷ c2 ∷ c1 ∷ b7 ∷ []) (c1 ∷ c2 ∷ c3 ∷ f1 ∷ f2 ∷ asked) ≡ b7 ∷ c1 ∷ c2 ∷ c3 ∷ [])

-- so this is the course of a walk that begins with nothing recorded
abbrev pub OneCourse : Type 0
OneCourse = Course by_bytes tells question [] (c3 ∷ c2 ∷ c1 ∷ b7 ∷ [])

-- Every Web that tells the same at the four addresses gives the question the same solutions and weights, whatever it tells elsewhere.
abbrev pub FourDocumentsDecide : Type 0
FourDocumentsDecide =
    (k : Kind) → Lawful k → (w : Term → Told Term) → AgreeOn by_bytes four tells w
    → (U W : List Term) → Universe by_bytes (lists_of tells) question U → Universe by_bytes (lists_of w) question W
    → (m : Row Term)
    → weight_in by_bytes (graph_of by_bytes (lists_of tells) U) k question m ≡ weight_in by_bytes (graph_of by_bytes (lists_of w) W) k question m
