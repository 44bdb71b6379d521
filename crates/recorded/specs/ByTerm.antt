-- A question by number over the documents at hand, against the same question by term over the whole Web.
use Rattle.std.specs.Prelude.{◌≡◌, ℕ, Bool, true, false, ◌↔◌, List, Some, Ok, Err, Result, ◌≢◌}
use Rattle.terms.specs.Terms.{Term}
use Rattle.weights.specs.Kinds.{Kind, Lawful}
use Rattle.grammar.specs.Syntax.{Pattern}
use Rattle.grammar.specs.Judged.{judged}
use Rattle.semantics.specs.Terms.{In}
use Rattle.semantics.specs.Rows.{Row, given, same_row}
use Rattle.semantics.specs.Bags.{Bag}
use Rattle.semantics.specs.Graphs.{Graph}
use Rattle.semantics.specs.Meaning.{weight_in, possible}
use Rattle.semantics.specs.Webs.{Triple, terms_in, graph_of, Universe, by_bytes}
use Rattle.semantics.specs.Laws.{Apart}
use Rattle.walks.specs.Crowds.{TooMany}
use Rattle.walks.specs.Needs.{needs}
use Rattle.walks.specs.Plans.{Needed}
use Rattle.walks.specs.Promises.{whole}
use Rattle.walks.specs.Translated.{each, row_by, pattern_by, bag_by}
use Rattle.web.specs.Agreement.{Tells}
use Rattle.web.specs.Meaning.{Looked, told, Mark as Cause}
use Rattle.webs_meant.specs.Finding.{found_of}
use Rattle.lexicon.specs.Numbering.{number_of}
use Rattle.shelf.specs.declared.items.Mark.{Mark}
use Rattle.shelf.specs.declared.items.Mark.TheVariants.{Found, Absent, Broken, Unfit}
use Rattle.shelf.specs.declared.shelf.Shelf.{Shelf}
use Rattle.shelf.specs.Contexts.{on_shelf}
use Rattle.store.specs.declared.record.Entry.{Entry}
use Rattle.store.specs.State.{State}
use Rattle.tables.specs.declared.entry.TooMany.{TooMany as Refusal}
use Rattle.evaluation.specs.Evaluated.{found_on, terms_on, is_marked, Evaluated}
use Rattle.recorded.specs.Recorded.{Known, Recorded}
use Rattle.recorded.specs.ByNumber.{named, is_number, documents_of, graph_in, Lends, graph_on}

-- a question by term, by the session's numbers
abbrev pub numbered : List Term → Pattern Term ℕ → Pattern ℕ ℕ
numbered ts p = pattern_by (number_of ts) p

-- a row of numbers, by the terms that they name
abbrev pub row_named : List Term → Row ℕ → Row Term
row_named ts r = row_by (named ts) r

-- all that it gives are numbers of the session's terms
abbrev pub GivesNumbers : List Term → Row ℕ → Type 0
GivesNumbers ts r = (v n : ℕ) → given r v ≡ Some n → is_number ts n ≡ true

-- a question whose terms are in the session, and the documents at hand, with their terms listed by number
pub record Asked (v : Tells) (s : State) (h : Shelf) (p : Pattern Term ℕ) (U : List ℕ) : Type 0 where
  pub recorded : Recorded v s
  pub lends : Lends s h
  pub known : Known s.terms (terms_in p)
  pub universe : Universe (terms_on h) (found_on h) (numbered s.terms p) U

-- By number, over a graph of numbers, a question has the verdict, the needs, the possible rows and the weights that it has by term over a graph of terms, and
-- too many where it has too many.
pub record SameByNumber (s : State) (h : Shelf) (p : Pattern Term ℕ) (G : Graph ℕ) (H : Graph Term) : Type 0 where
  pub verdict : (m : ℕ) → judged (numbered s.terms p) m ≡ judged p m
  pub needs : needs by_bytes H (whole p) ≡ each (named s.terms) (needs (terms_on h) G (whole (numbered s.terms p)))
  pub needed : (i : Term) → Needed by_bytes H (whole p) i ↔ ((n : ℕ) × Needed (terms_on h) G (whole (numbered s.terms p)) n × (i ≡ named s.terms n))
  pub rows : possible by_bytes H p ≡ each (row_named s.terms) (possible (terms_on h) G (numbered s.terms p))
  pub weights : (k : Kind) (r : Row ℕ) → GivesNumbers s.terms r
      → weight_in by_bytes H k p (row_named s.terms r) ≡ weight_in (terms_on h) G k (numbered s.terms p) r
  pub crowds : TooMany (terms_on h) G (whole (numbered s.terms p)) ↔ TooMany by_bytes H (whole p)
  -- where a possible row gives a number, it is that of a term
  pub gives : (r : Row ℕ) → In r (possible (terms_on h) G (numbered s.terms p)) → GivesNumbers s.terms r

-- The documents at hand by number, and those of the record by term, are two such graphs.
abbrev pub NumbersAskTheSame : Type 0
NumbersAskTheSame =
    (v : Tells) (s : State) (h : Shelf) (p : Pattern Term ℕ) (U : List ℕ) → Asked v s h p U
    → SameByNumber s h p (graph_on h U) (graph_in v s (each (named s.terms) U))

-- ---- the whole Web

-- a document to answer from, or none at the IRI
abbrev pub answers : Mark → Bool
answers (Found n) = true
answers Absent = true
answers (Broken code place) = false
answers Unfit = false

-- the IRI with a number is recorded as found or absent
abbrev pub Answered : State → ℕ → Type 0
Answered s n = (e : Entry) × In e s.entries × (e.iri ≡ n) × (answers e.mark ≡ true)

-- Over the whole Web, that finds these lists and has these terms, rows of numbers weigh as by number over the graph of documents at hand, and every solution
-- is one of the possible rows of numbers.
pub record OverTheWeb (k : Kind) (found : Term → List (Triple Term)) (W : List Term) (s : State) (h : Shelf) (p : Pattern Term ℕ) (G : Graph ℕ) : Type 0 where
  pub weights : (r : Row ℕ) → GivesNumbers s.terms r
      → weight_in by_bytes (graph_of by_bytes found W) k p (row_named s.terms r) ≡ weight_in (terms_on h) G k (numbered s.terms p) r
  pub solutions : (m : Row Term) → (weight_in by_bytes (graph_of by_bytes found W) k p m ≢ k.zero)
      → (r : Row ℕ) × In r (possible (terms_on h) G (numbered s.terms p)) × (same_row by_bytes m (row_named s.terms r) ≡ true)

-- Where a question is bounded, and all that it needs by number over the documents at hand is recorded as found or absent, it has the weights and solutions
-- that it has over the whole Web, whatever the make of the Web and its causes.
abbrev pub RecordAnswers : Type 0 → Type 0
RecordAnswers C =
    (mark : C → Cause) (meaning : List ℕ → Looked C) (s : State) (h : Shelf) (p : Pattern Term ℕ) (U : List ℕ)
    → Asked (λ iri. told mark (meaning iri)) s h p U → judged p 0 ≡ true
    → ((n : ℕ) → Needed (terms_on h) (graph_on h U) (whole (numbered s.terms p)) n → Answered s n)
    → (W : List Term) → Universe by_bytes (found_of meaning) p W
    → (k : Kind) → Lawful k → OverTheWeb k (found_of meaning) W s h p (graph_on h U)

-- ---- what an evaluation answers, by term

-- A table of rows of numbers has, by term, no row twice, and the weights and all solutions that a question has over the whole Web.
pub record TableOfTheWeb (k : Kind) (found : Term → List (Triple Term)) (W : List Term) (s : State) (p : Pattern Term ℕ) (table : Bag ℕ ℕ) : Type 0 where
  pub once : Apart by_bytes (bag_by (named s.terms) table)
  pub weights : (r : Row ℕ) (u : ℕ) → In (r, u) table → u ≡ weight_in by_bytes (graph_of by_bytes found W) k p (row_named s.terms r)
  pub solutions : (m : Row Term) → (weight_in by_bytes (graph_of by_bytes found W) k p m ≢ k.zero)
      → (r : Row ℕ) × (u : ℕ) × In (r, u) table × (same_row by_bytes m (row_named s.terms r) ≡ true)

-- Where an evaluation over the documents at hand has answered, and each IRI that it marks is recorded as found or absent, its table is that of the whole Web.
abbrev pub EvaluationAnswers : Type 0 → Type 0
EvaluationAnswers C =
    (mark : C → Cause) (meaning : List ℕ → Looked C) (s : State) (h : Shelf) (p : Pattern Term ℕ)
    → Recorded (λ iri. told mark (meaning iri)) s → Lends s h → Known s.terms (terms_in p) → judged p 0 ≡ true
    → (k : Kind) → Lawful k → (marks : List Bool) (table : Bag ℕ ℕ) → Evaluated k h (numbered s.terms p) (Ok tt) marks table
    → ((n : ℕ) → on_shelf h n ≡ true → is_marked marks n → Answered s n)
    → (W : List Term) → Universe by_bytes (found_of meaning) p W → TableOfTheWeb k (found_of meaning) W s p table

-- too many, or not
abbrev pub SaysTooMany : Result (Unit {0}) Refusal → Type 0 → Type 0
SaysTooMany (Err e) P = P
SaysTooMany (Ok u) P = P → ⊥

-- An evaluation says too many exactly where the question has too many, by term, over the documents of the record, however their terms are listed.
abbrev pub EvaluationCounts : Type 0
EvaluationCounts =
    (v : Tells) (s : State) (h : Shelf) (p : Pattern Term ℕ) → Recorded v s → Lends s h → Known s.terms (terms_in p) → judged p 0 ≡ true
    → (k : Kind) (r : Result (Unit {0}) Refusal) (marks : List Bool) (table : Bag ℕ ℕ) → Evaluated k h (numbered s.terms p) r marks table
    → (V : List Term) → Universe by_bytes (documents_of v s) p V → SaysTooMany r (TooMany by_bytes (graph_in v s V) (whole p))
