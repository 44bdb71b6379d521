-- What is promised of walks.
use Rattle.std.specs.Prelude.{◌≡◌, ℕ, true, ◌⊎◌, ◌↔◌, List, []}
use Rattle.weights.specs.Kinds.{Kind, Lawful}
use Rattle.grammar.specs.Syntax.{Pattern}
use Rattle.grammar.specs.Judged.{judged}
use Rattle.semantics.specs.Terms.{Terms, Exact, In, has}
use Rattle.semantics.specs.Rows.{Row, blank}
use Rattle.semantics.specs.Graphs.{Graph, Closed}
use Rattle.semantics.specs.Meaning.{weight_in, possible}
use Rattle.semantics.specs.Webs.{Triple, graph_of, Universe}
use Rattle.walks.specs.Plans.{Asking, part, Reached, Needed}
use Rattle.walks.specs.Crowds.{TooMany}
use Rattle.walks.specs.Needs.{needs}

-- what a whole question asks: nothing is fixed
abbrev pub whole : {A : Type 0} → Pattern A ℕ → Asking A
whole p = part 0 p blank

-- A walk is complete. The shelf has, for every IRI, the list that the Web finds, or nothing. If the question is bounded, and the shelf has the Web's
-- list for each IRI that is needed over the shelf, then the question has over the shelf the solutions and weights that it has over the whole Web.
abbrev pub WalkIsComplete : Type 0 → Type 0
WalkIsComplete A =
    (T : Terms A) → Exact T → (k : Kind) → Lawful k → (web shelf : A → List (Triple A)) → ((i : A) → (shelf i ≡ web i) ⊎ (shelf i ≡ []))
    → (p : Pattern A ℕ) → judged p 0 ≡ true → (U V : List A) → Universe T web p U → Universe T shelf p V
    → ((i : A) → Needed T (graph_of T shelf V) (whole p) i → shelf i ≡ web i)
    → (m : Row A) → weight_in T (graph_of T web U) k p m ≡ weight_in T (graph_of T shelf V) k p m

-- ---- while a walk goes on

-- one graph has all that another has
pub record Grows {A : Type 0} (T : Terms A) (G H : Graph A) : Type 0 where
  pub contexts : (a : A) (t : A × A) → In t (G.context a) → In t (H.context a)
  pub terms : (a : A) → has T a G.universe ≡ true → has T a H.universe ≡ true

-- With more documents a question has the possible solutions that it had, its plan reaches the sub-questions that it reached, it needs what it needed, and
-- has too many where it had too many.
pub record KeptByGrowth {A : Type 0} (T : Terms A) (G H : Graph A) (p : Pattern A ℕ) : Type 0 where
  pub rows : (a : Row A) → In a (possible T G p) → In a (possible T H p)
  pub reached : (q : Asking A) → Reached T G (whole p) q → Reached T H (whole p) q
  pub needs : (i : A) → Needed T G (whole p) i → Needed T H (whole p) i
  pub crowds : TooMany T G (whole p) → TooMany T H (whole p)

abbrev pub WalksOnlyGrow : Type 0 → Type 0
WalksOnlyGrow A = (T : Terms A) → Exact T → (G H : Graph A) → Closed T G → Closed T H → Grows T G H → (p : Pattern A ℕ) → KeptByGrowth T G H p

-- What is needed is a term of the question or of a document that the shelf has.
abbrev pub NeedsAreMet : Type 0 → Type 0
NeedsAreMet A =
    (T : Terms A) → Exact T → (shelf : A → List (Triple A)) (p : Pattern A ℕ) (V : List A) → Universe T shelf p V
    → (i : A) → Needed T (graph_of T shelf V) (whole p) i → has T i V ≡ true

-- The list of needs has exactly what is needed.
abbrev pub NeedsAreListed : Type 0 → Type 0
NeedsAreListed A = (T : Terms A) → Exact T → (G : Graph A) → Closed T G → (q : Asking A) (i : A) → Needed T G q i ↔ In i (needs T G q)

-- ---- nothing else matters

-- the question has the same possible solutions, weights and needs, and too many over both or over neither
pub record Unmoved {A : Type 0} (T : Terms A) (G H : Graph A) (p : Pattern A ℕ) : Type 0 where
  pub rows : (a : Row A) → In a (possible T G p) ↔ In a (possible T H p)
  pub weights : (k : Kind) → Lawful k → (m : Row A) → weight_in T G k p m ≡ weight_in T H k p m
  pub needs : (i : A) → Needed T G (whole p) i ↔ Needed T H (whole p) i
  pub crowds : TooMany T G (whole p) ↔ TooMany T H (whole p)

-- Documents that are not needed change nothing. One shelf has, for every IRI, the list that another has, or nothing; where it is needed over the first, they
-- have the same. (That the weights are the same is the completeness of the walk, with the larger shelf for a Web.)
abbrev pub NothingElseMatters : Type 0 → Type 0
NothingElseMatters A =
    (T : Terms A) → Exact T → (less more : A → List (Triple A)) → ((i : A) → (less i ≡ more i) ⊎ (less i ≡ []))
    → (p : Pattern A ℕ) → judged p 0 ≡ true → (V U : List A) → Universe T less p V → Universe T more p U
    → ((i : A) → Needed T (graph_of T less V) (whole p) i → less i ≡ more i)
    → Unmoved T (graph_of T more U) (graph_of T less V) p
