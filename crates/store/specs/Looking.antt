-- What looking an IRI up answers, and what is kept then.
use Rattle.std.specs.Prelude.{◌≡◌, ℕ, ◌+◌, ◌≤◌, Bool, true, false, cond, List, [], ◌∷◌, ◌++◌, map, length, Some, None, Ok, Err, Option, Result, nat_le}
use Rattle.terms.specs.Terms.{Term}
use Rattle.terms.specs.declared.kind.Kind.{Kind}
use Rattle.terms.specs.declared.kind.Kind.TheVariants.{Iri, Literal}
use Rattle.lexicon.specs.Numbering.{enter_all, within, admit, admitted, term_at}
use Rattle.shelf.specs.declared.items.Listed.{Listed}
use Rattle.web.specs.Meaning.{Triple, Told}
use Rattle.web.specs.Agreement.{Tells}
use Rattle.shelf.specs.declared.items.Mark.{Mark}
use Rattle.store.specs.declared.record.Entry.{Entry}
use Rattle.store.specs.declared.refusals.Unlooked.{Unlooked}
use Rattle.store.specs.declared.refusals.Unlooked.TheVariants.{Full, NoSuch}
use Rattle.shelf.specs.Contexts.{size}
use Rattle.store.specs.State.{State, noted, parts_of, listed}

-- the bytes of an IRI; a literal is no address
abbrev pub address_in : Kind → List ℕ → Option (List ℕ)
address_in Iri x = Some x
address_in Literal x = None

abbrev pub address_of : Option Term → Option (List ℕ)
address_of None = None
address_of (Some t) = address_in t.kind t.bytes

abbrev pub looked_at : Option (List ℕ) → Tells → ℕ → State → State
looked_at None tells n s = s
looked_at (Some iri) tells n s = noted (tells iri) n s

abbrev pub answered_at : Option (List ℕ) → Result (Unit {0}) Unlooked
answered_at None = Err NoSuch
answered_at (Some iri) = Ok tt

-- the record holds 256 IRIs
unfoldable pub full : State → Bool
full s = nat_le 256 (length s.entries)

-- a full record, then a number that is no IRI's, is refused, and nothing is changed
abbrev pub looked : Tells → ℕ → State → State
looked tells n s = cond (full s) s (looked_at (address_of (term_at s.terms n)) tells n s)

abbrev pub looks : ℕ → State → Result (Unit {0}) Unlooked
looks n s = cond (full s) (Err Full) (answered_at (address_of (term_at s.terms n)))

-- the numbers of the refusals
abbrev pub unlooked_number : Unlooked → ℕ
unlooked_number Full = 9
unlooked_number NoSuch = 14

-- ---- on the way

-- a term that is read at a place of the list enters
pub record Enters (t : Term) (ts : List Term) (r : Option ℕ) (us : List Term) : Type 0 where
  pub answer : r ≡ admitted ts t
  pub after : us ≡ admit ts t

-- the triples of a list entered, or the terms of one did not fit and those before it may be there
abbrev pub Gathering : List Term → List Listed → List Triple → Bool → List Term → List Listed → Type 0
Gathering ts ls xs true us ms = (within (enter_all ts (parts_of xs)) ≡ true) × (us ≡ enter_all ts (parts_of xs)) × (ms ≡ ls ++ map (listed us) xs)
Gathering ts ls xs false us ms = (within (enter_all ts (parts_of xs)) ≡ false) × ((more : List Term) × (us ≡ ts ++ more)) × ((more : List Listed) × (ms ≡ ls ++ more))

-- once this mark stands in the record, all is kept that is to be kept of what the Web told
pub record Fetched (t : Told) (ts : List Term) (ls : List Listed) (m : Mark) (us : List Term) (ms : List Listed) : Type 0 where
  pub kept : (n : ℕ) (es : List Entry) → ◌≡◌ {A = State} (record { terms = us; entries = es ++ record { iri = n; mark = m } ∷ []; triples = ms }) (noted t n (record { terms = ts; entries = es; triples = ls }))
  pub grows : length ms ≡ length ls + size m
  pub few : length ls ≤ 4096 → length ms ≤ 4096
