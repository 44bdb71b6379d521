-- The shelf as a walk fills it: of all that a Web tells, the lists at the addresses that are recorded.
use Rattle.std.specs.Prelude.{◌≡◌, ℕ, Bool, true, false, cond, ◌⊎◌, List, [], ◌∷◌, ◌++◌}
use Rattle.weights.specs.Kinds.{Kind, Lawful}
use Rattle.grammar.specs.Syntax.{Pattern}
use Rattle.grammar.specs.Judged.{judged}
use Rattle.semantics.specs.Terms.{Terms, Exact, In, has}
use Rattle.semantics.specs.Rows.{Row}
use Rattle.semantics.specs.Graphs.{Graph}
use Rattle.semantics.specs.Meaning.{weight_in}
use Rattle.semantics.specs.Webs.{Triple, graph_of, Universe}
use Rattle.walks.specs.Plans.{Needed}
use Rattle.walks.specs.Promises.{whole, Grows}

-- what a Web tells at an IRI: the list that it finds there, that there is none, or by which code and place it cannot be read
pub data Told (A : Type 0) : Type 0 where
  found : List (Triple A) → Told A
  absent : Told A
  broken : ℕ → ℕ → Told A

-- no triples but where a list is found
abbrev pub triples : {A : Type 0} → Told A → List (Triple A)
triples (found l) = l
triples absent = []
triples (broken code place) = []

abbrev pub readable : {A : Type 0} → Told A → Bool
readable (found l) = true
readable absent = true
readable (broken code place) = false

-- the whole Web: its list for each IRI
abbrev pub lists_of : {A : Type 0} → (A → Told A) → A → List (Triple A)
lists_of tells i = triples (tells i)

module _ {A : Type 0} (T : Terms A) where
  -- the shelf of a record, that is of the IRIs that were looked up: the Web's list for each of them, nothing for any other
  abbrev pub shelf_by : (A → Told A) → List A → A → List (Triple A)
  shelf_by tells recorded i = cond (has T i recorded) (triples (tells i)) []

  abbrev pub shelf_graph : (A → Told A) → List A → List A → Graph A
  shelf_graph tells recorded universe = graph_of T (shelf_by tells recorded) universe

  -- two Webs tell the same at each of these addresses
  abbrev pub AgreeOn : List A → (A → Told A) → (A → Told A) → Type 0
  AgreeOn recorded v w = (i : A) → has T i recorded ≡ true → v i ≡ w i

  -- the IRI is recorded as found, so with exactly its list, or as absent
  abbrev pub Settled : (A → Told A) → List A → A → Type 0
  Settled tells recorded i = (has T i recorded ≡ true) × (readable (tells i) ≡ true)

  -- all that the question needs over the shelf of the record is settled
  abbrev pub AllSettled : (A → Told A) → List A → List A → Pattern A ℕ → Type 0
  AllSettled tells recorded V p = (i : A) → Needed T (shelf_graph tells recorded V) (whole p) i → Settled tells recorded i

-- Webs that agree on the recorded addresses give the same shelf.
abbrev pub SameShelf : Type 0 → Type 0
SameShelf A = (T : Terms A) (recorded : List A) (v w : A → Told A) → AgreeOn T recorded v w → shelf_by T v recorded ≡ shelf_by T w recorded

-- Every shelf has its universe, for every question.
abbrev pub EveryShelfHasItsUniverse : Type 0 → Type 0
EveryShelfHasItsUniverse A =
    (T : Terms A) → Exact T → (tells : A → Told A) (recorded : List A) (p : Pattern A ℕ) → (V : List A) × Universe T (shelf_by T tells recorded) p V

-- ---- a list rests on the record alone

-- A walk is complete, said of a record: where a question is bounded and all that it needs over the shelf is settled, it has over the shelf the solutions and
-- weights that it has over the whole Web. (Over the whole Web a broken address has no triple, as on the shelf. But a walk that needs one declines.)
abbrev pub RecordSuffices : Type 0 → Type 0
RecordSuffices A =
    (T : Terms A) → Exact T → (k : Kind) → Lawful k → (tells : A → Told A) (recorded : List A) (p : Pattern A ℕ) → judged p 0 ≡ true
    → (U V : List A) → Universe T (lists_of tells) p U → Universe T (shelf_by T tells recorded) p V → AllSettled T tells recorded V p
    → (m : Row A) → weight_in T (graph_of T (lists_of tells) U) k p m ≡ weight_in T (shelf_graph T tells recorded V) k p m

-- No other document could have changed the list: where all that a question needs over the shelf is settled, it has the same solutions and weights over the
-- whole of every Web that tells the same at the recorded addresses, whatever that Web tells elsewhere.
abbrev pub RecordDecides : Type 0 → Type 0
RecordDecides A =
    (T : Terms A) → Exact T → (k : Kind) → Lawful k → (v w : A → Told A) (recorded : List A) (p : Pattern A ℕ) → judged p 0 ≡ true
    → (U W V : List A) → Universe T (lists_of v) p U → Universe T (lists_of w) p W → Universe T (shelf_by T v recorded) p V
    → AllSettled T v recorded V p → AgreeOn T recorded v w
    → (m : Row A) → weight_in T (graph_of T (lists_of v) U) k p m ≡ weight_in T (graph_of T (lists_of w) W) k p m

-- ---- while a walk goes on

-- A shelf with more documents is a graph that has grown. One shelf has, for every IRI, the list that the other has, or nothing.
abbrev pub ShelvesGrow : Type 0 → Type 0
ShelvesGrow A =
    (T : Terms A) → Exact T → (less more : A → List (Triple A)) → ((i : A) → (less i ≡ more i) ⊎ (less i ≡ [])) → (p : Pattern A ℕ) (V U : List A)
    → Universe T less p V → Universe T more p U → Grows T (graph_of T less V) (graph_of T more U)

-- The course of one walk: the IRIs that it has looked up, the latest first. Each is needed over the shelf as it then is. The record may hold earlier ones, of
-- other walks. Which of the needed IRIs is looked up next is left open here.
pub data Course {A : Type 0} (T : Terms A) (tells : A → Told A) (p : Pattern A ℕ) (earlier : List A) : List A → Type 0 where
  begins : Course T tells p earlier []
  looks : {looked V : List A} {i : A} → Course T tells p earlier looked → Universe T (shelf_by T tells (looked ++ earlier)) p V
      → Needed T (shelf_graph T tells (looked ++ earlier) V) (whole p) i → Course T tells p earlier (i ∷ looked)

-- Every IRI that a walk has looked up is still needed at its end.
abbrev pub LookedUpStaysNeeded : Type 0 → Type 0
LookedUpStaysNeeded A =
    (T : Terms A) → Exact T → (tells : A → Told A) (p : Pattern A ℕ) (earlier looked : List A) → Course T tells p earlier looked
    → (V : List A) → Universe T (shelf_by T tells (looked ++ earlier)) p V
    → (i : A) → In i looked → Needed T (shelf_graph T tells (looked ++ earlier) V) (whole p) i
