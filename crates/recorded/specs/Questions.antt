-- The question that an evaluation is asked by number, against the question that was read.
use Rattle.std.specs.Prelude.{◌≡◌, ℕ, Bool, true, List, map, Ok}
use Rattle.terms.specs.Terms.{Term}
use Rattle.weights.specs.Kinds.{Kind, Lawful}
use Rattle.grammar.specs.Numbered.{asks}
use Rattle.question.specs.declared.question.Question.{Question}
use Rattle.question.specs.Asking.{asked}
use Rattle.judging.specs.Masked.{asks_by}
use Rattle.semantics.specs.Bags.{Bag}
use Rattle.semantics.specs.Webs.{terms_in, Universe, by_bytes}
use Rattle.web.specs.Meaning.{Looked, Told, told, Mark as Cause}
use Rattle.webs_meant.specs.Finding.{found_of}
use Rattle.lexicon.specs.Numbering.{number_of}
use Rattle.shelf.specs.declared.shelf.Shelf.{Shelf}
use Rattle.shelf.specs.Contexts.{on_shelf}
use Rattle.store.specs.State.{State, fitting, entered, numbered as numbers_kept, noted}
use Rattle.evaluation.specs.declared.entered.Asked.{Asked}
use Rattle.evaluation.specs.Evaluated.{asks as asks_number, is_marked, Evaluated}
use Rattle.recorded.specs.Recorded.{Known, Recorded}
use Rattle.recorded.specs.ByNumber.{Lends}
use Rattle.recorded.specs.ByTerm.{numbered, Answered, TableOfTheWeb}

-- With the numbers of its terms a question asks by number what it asks by term, with its variables by number.
abbrev pub QuestionsAreNumbered : Type 0
QuestionsAreNumbered = (us : List Term) (q : Question) → asks_by (map (number_of us) (asked q).terms) q q.root ≡ numbered us (asks (asked q))

-- What it asks has no other terms than those that enter.
abbrev pub TermsAreAsked : Type 0
TermsAreAsked = (us : List Term) (q : Question) → Known us (asked q).terms → Known us (terms_in (asks (asked q)))

-- Once they have entered they are the session's, and the numbers that are kept of them are theirs.
abbrev pub EnteredTermsAreKnown : Type 0
EnteredTermsAreKnown =
    (s : State) (q : Question) (before : List ℕ) → fitting s (asked q).terms ≡ true
    → Known (entered (asked q).terms s).terms (asked q).terms
    × (numbers_kept (asked q).terms s before ≡ map (number_of (entered (asked q).terms s).terms) (asked q).terms)

-- They stay so, whatever is looked up.
abbrev pub LookupsKeepNumbers : Type 0
LookupsKeepNumbers =
    (t : Told) (n : ℕ) (s : State) (ts : List Term) → Known s.terms ts
    → Known (noted t n s).terms ts × (map (number_of (noted t n s).terms) ts ≡ map (number_of s.terms) ts)

-- Where a judged question was evaluated with the session's numbers of its terms, over the documents at hand, and each IRI that was marked is recorded as found
-- or absent, the table has the weights and all solutions that the question has over the whole Web.
abbrev pub EvaluatedQuestionsAnswer : Type 0 → Type 0
EvaluatedQuestionsAnswer C =
    (mark : C → Cause) (meaning : List ℕ → Looked C) (s : State) (h : Shelf) (a : Asked)
    → Recorded (λ iri. told mark (meaning iri)) s → Lends s h → Known s.terms (asked a.judged.now.question).terms
    → a.numbers.now ≡ map (number_of s.terms) (asked a.judged.now.question).terms
    → (k : Kind) → Lawful k → (marks : List Bool) (table : Bag ℕ ℕ) → Evaluated k h (asks_number a) (Ok tt) marks table
    → ((n : ℕ) → on_shelf h n ≡ true → is_marked marks n → Answered s n)
    → (W : List Term) → Universe by_bytes (found_of meaning) (asks (asked a.judged.now.question)) W
    → TableOfTheWeb k (found_of meaning) W s (asks (asked a.judged.now.question)) table
