-- When a round may answer.
use Rattle.std.specs.Prelude.{◌≡◌, ℕ, Bool, true, List, map, None, Ok}
use Rattle.terms.specs.Terms.{Term}
use Rattle.weights.specs.Kinds.{Kind, Lawful}
use Rattle.grammar.specs.Numbered.{asks}
use Rattle.question.specs.Asking.{asked}
use Rattle.semantics.specs.Bags.{Bag}
use Rattle.semantics.specs.Webs.{Universe, by_bytes}
use Rattle.web.specs.Meaning.{Looked, told, Mark as Cause}
use Rattle.webs_meant.specs.Finding.{found_of}
use Rattle.lexicon.specs.Numbering.{number_of}
use Rattle.shelf.specs.declared.shelf.Shelf.{Shelf}
use Rattle.shelf.specs.Contexts.{on_shelf}
use Rattle.store.specs.State.{State}
use Rattle.needs.specs.Needs.{first_where, is_spoilt, Lowest}
use Rattle.evaluation.specs.declared.entered.Asked.{Asked}
use Rattle.evaluation.specs.Evaluated.{asks as asks_number, is_marked, Evaluated}
use Rattle.recorded.specs.Recorded.{Known, Recorded}
use Rattle.recorded.specs.ByNumber.{Lends}
use Rattle.recorded.specs.ByTerm.{Answered, TableOfTheWeb}

-- no IRI that is marked is missing from the record, or is broken or unfit there
abbrev pub Complete : State → List Bool → Type 0
Complete s marks = Lowest s marks None × (first_where (is_spoilt marks) s.entries ≡ None)

-- Then each is recorded as found or absent.
abbrev pub CompleteIsAnswered : Type 0
CompleteIsAnswered =
    (s : State) (h : Shelf) (marks : List Bool) → Lends s h → Complete s marks
    → (n : ℕ) → on_shelf h n ≡ true → is_marked marks n → Answered s n

-- So the table of an evaluation that has marked them has the weights and all solutions that the question has over the whole Web.
abbrev pub CompleteRoundsAnswer : Type 0 → Type 0
CompleteRoundsAnswer C =
    (mark : C → Cause) (meaning : List ℕ → Looked C) (s : State) (h : Shelf) (a : Asked)
    → Recorded (λ iri. told mark (meaning iri)) s → Lends s h → Known s.terms (asked a.judged.now.question).terms
    → a.numbers.now ≡ map (number_of s.terms) (asked a.judged.now.question).terms
    → (k : Kind) → Lawful k → (marks : List Bool) (table : Bag ℕ ℕ) → Evaluated k h (asks_number a) (Ok tt) marks table → Complete s marks
    → (W : List Term) → Universe by_bytes (found_of meaning) (asks (asked a.judged.now.question)) W
    → TableOfTheWeb k (found_of meaning) W s (asks (asked a.judged.now.question)) table
