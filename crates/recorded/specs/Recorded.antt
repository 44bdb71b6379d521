-- What a session keeps, against what a Web tells.
use Rattle.std.specs.Prelude.{◌≡◌, ℕ, ◌<◌, List, [], ◌∷◌, map, length, take, drop, Some, true}
use Rattle.terms.specs.Lawful.{lawful as lawful_term}
use Rattle.terms.specs.Terms.{Term}
use Rattle.semantics.specs.Terms.{In}
use Rattle.walks.specs.Crowds.{Apart}
use Rattle.web.specs.Agreement.{Tells, Agree}
use Rattle.web.specs.Laws.{Lawful}
use Rattle.web.specs.Meaning.{Triple, Looked, Told, found, absent, broken, told, Mark as Cause}
use Rattle.lexicon.specs.Numbering.{number_of, term_at}
use Rattle.shelf.specs.declared.items.Listed.{Listed}
use Rattle.shelf.specs.declared.items.Mark.{Mark}
use Rattle.shelf.specs.declared.items.Mark.TheVariants.{Found, Absent, Broken, Unfit}
use Rattle.shelf.specs.declared.items.Noted.{Noted}
use Rattle.shelf.specs.Contexts.{size}
use Rattle.store.specs.declared.record.Entry.{Entry}
use Rattle.store.specs.State.{State, fresh, parts_of, listed, noted, entered, placed, total}
use Rattle.store.specs.Looking.{address_of, looked}

-- all of these have numbers
abbrev pub Known : List Term → List Term → Type 0
Known ts us = (u : Term) → In u us → 0 < number_of ts u

-- A mark, with the triples that are kept for it, says what a Web tells: the list that it finds, by the numbers of its terms; or that there is none; or by which
-- code and place it cannot be read. An unfit list was found too, but nothing of it is kept.
abbrev pub Says : List Term → Told → Mark → List Listed → Type 0
Says ts t (Found n) ls = (xs : List Triple) × (t ≡ found xs) × (n ≡ length xs) × (ls ≡ map (listed ts) xs) × Known ts (parts_of xs)
Says ts t Absent ls = t ≡ absent
Says ts t (Broken code place) ls = t ≡ broken (record { code = code; place = place })
Says ts t Unfit ls = (xs : List Triple) × (t ≡ found xs)

-- the triples that are kept for an entry
abbrev pub kept_for : State → Noted → List Listed
kept_for s n = take (size n.mark) (drop n.first s.triples)

-- an entry names an IRI of the session, and says what the Web tells there
pub record Holds (v : Tells) (s : State) (n : Noted) : Type 0 where
  pub address : List ℕ
  pub names : address_of (term_at s.terms n.iri) ≡ Some address
  pub says : Says s.terms (v address) n.mark (kept_for s n)

abbrev pub iris_of : List Entry → List ℕ
iris_of [] = []
iris_of (e ∷ es) = e.iri ∷ iris_of es

-- The session's terms and its record are a Web's: each entry says what it tells.
pub record Recorded (v : Tells) (s : State) : Type 0 where
  -- terms are lawful, and none has two numbers
  pub lawful : (t : Term) → In t s.terms → lawful_term t ≡ true
  pub once : (n : ℕ) (t : Term) → term_at s.terms n ≡ Some t → number_of s.terms t ≡ n
  -- no IRI is recorded twice
  pub apart : Apart (iris_of s.entries)
  -- the lists of the entries, one behind the other, are all the triples
  pub whole : total s.entries ≡ length s.triples
  pub entries : (n : Noted) → In n (placed 0 s.entries) → Holds v s n

-- ---- laws

-- A fresh session has nothing that a Web would have to tell.
abbrev pub FreshIsRecorded : Type 0
FreshIsRecorded = (v : Tells) → Recorded v fresh

-- the terms of a question enter
abbrev pub EnteringKeepsIt : Type 0
EnteringKeepsIt = (v : Tells) (s : State) (ts : List Term) → ((t : Term) → In t ts → lawful_term t ≡ true) → Recorded v s → Recorded v (entered ts s)

-- What a make's lawful meaning tells is lawful, with its causes as two numbers.
abbrev pub TellingIsLawful : Type 0 → Type 0
TellingIsLawful C = (mark : C → Cause) (x : List ℕ) (l : Looked C) → Lawful x l → Lawful x (told mark l)

-- what a lawful Web tells of an IRI of the session is noted, where that is not recorded yet
abbrev pub NotingKeepsIt : Type 0
NotingKeepsIt =
    (v : Tells) → ((x : List ℕ) → Lawful x (v x)) → (s : State) (n : ℕ) (x : List ℕ) → address_of (term_at s.terms n) ≡ Some x
    → (In n (iris_of s.entries) → ⊥) → Recorded v s → Recorded v (noted (v x) n s)

-- So a lookup keeps it, whatever it answers.
abbrev pub LookingKeepsIt : Type 0
LookingKeepsIt =
    (v : Tells) → ((x : List ℕ) → Lawful x (v x)) → (s : State) (n : ℕ) → (In n (iris_of s.entries) → ⊥) → Recorded v s → Recorded v (looked v n s)

-- Only what is told at recorded addresses matters.
abbrev pub RecordIsOfItsAddresses : Type 0
RecordIsOfItsAddresses =
    (v w : Tells) (s : State) → ((e : Entry) (x : List ℕ) → In e s.entries → address_of (term_at s.terms e.iri) ≡ Some x → Agree v w x)
    → Recorded v s → Recorded w s
