-- What a session keeps beside its waiting rows, and what a lookup adds to it.
use Rattle.std.specs.Prelude.{ℕ, zero, suc, ◌+◌, Bool, cond, ◌&&◌, List, [], ◌∷◌, ◌++◌, map, length, Ok, Err, Result, nat_le}
use Rattle.terms.specs.Terms.{Term}
use Rattle.lexicon.specs.Numbering.{number_of, enter_all, within}
use Rattle.shelf.specs.declared.items.Listed.{Listed}
use Rattle.shelf.specs.declared.items.Noted.{Noted}
use Rattle.store.specs.declared.refusals.TermsUnfit.{TermsUnfit}
use Rattle.web.specs.Meaning.{Triple, Told, found, absent, broken}
use Rattle.shelf.specs.declared.items.Mark.{Mark}
use Rattle.shelf.specs.declared.items.Mark.TheVariants.{Found, Absent, Broken, Unfit}
use Rattle.store.specs.declared.record.Entry.{Entry}
use Rattle.store.specs.declared.refusals.NoEntry.{NoEntry}
use Rattle.shelf.specs.Contexts.{size}

pub record State : Type 0 where
  -- numbered from 1
  pub terms : List Term
  -- the record: the IRIs that were looked up, in order
  pub entries : List Entry
  -- the lists that were found, one behind the other in the record's order
  pub triples : List Listed

abbrev pub fresh : State
fresh = record { terms = []; entries = []; triples = [] }

-- ---- triples by number

-- the terms of a list in the order in which they enter: subject, predicate and object of each triple
abbrev pub parts_of : List Triple → List Term
parts_of [] = []
parts_of (x ∷ xs) = x.subject ∷ x.predicate ∷ x.object ∷ parts_of xs

abbrev pub listed : List Term → Triple → Listed
listed ts x = record { subject = number_of ts x.subject; predicate = number_of ts x.predicate; object = number_of ts x.object }

-- ---- a lookup

-- a list is held against the limits as a whole: 4,096 triples, repeats counted, and the limits of terms
unfoldable pub fits : State → List Triple → Bool
fits s xs = nat_le (length s.triples + length xs) 4096 && within (enter_all s.terms (parts_of xs))

-- one entry more, and nothing else
abbrev pub marked : Mark → ℕ → State → State
marked m n s = record { terms = s.terms; entries = s.entries ++ record { iri = n; mark = m } ∷ []; triples = s.triples }

-- the list's terms and triples as well
abbrev pub shelved : List Triple → ℕ → State → State
shelved xs n s =
    let terms = enter_all s.terms (parts_of xs) in
    record { terms = terms; entries = s.entries ++ record { iri = n; mark = Found (length xs) } ∷ []; triples = s.triples ++ map (listed terms) xs }

-- what is kept once the IRI with the number n was looked up and the Web told this
abbrev pub noted : Told → ℕ → State → State
noted (found xs) n s = cond (fits s xs) (shelved xs n s) (marked Unfit n s)
noted absent n s = marked Absent n s
noted (broken m) n s = marked (Broken m.code m.place) n s

-- ---- the terms of a question

-- they are held against the limits together
unfoldable pub fitting : State → List Term → Bool
fitting s ts = within (enter_all s.terms ts)

abbrev pub entered : List Term → State → State
entered ts s = cond (fitting s ts) (record { terms = enter_all s.terms ts; entries = s.entries; triples = s.triples }) s

abbrev pub enters : List Term → State → Result (Unit {0}) TermsUnfit
enters ts s = cond (fitting s ts) (Ok tt) (Err (record {}))

-- the number of each, in their order; those of an earlier question stay where the terms do not fit
abbrev pub numbered : List Term → State → List ℕ → List ℕ
numbered ts s before = cond (fitting s ts) (map (number_of (enter_all s.terms ts)) ts) before

abbrev pub terms_unfit_number : ℕ
terms_unfit_number = 8

-- ---- the record

-- the list of each entry stands behind those of the entries before it
abbrev pub placed : ℕ → List Entry → List Noted
placed first [] = []
placed first (e ∷ es) = record { iri = e.iri; mark = e.mark; first = first } ∷ placed (first + size e.mark) es

-- how many triples the record says are kept
abbrev pub total : List Entry → ℕ
total [] = 0
total (e ∷ es) = size e.mark + total es

-- the entry at a place, from 0
abbrev pub traced : List Entry → ℕ → Result Entry NoEntry
traced [] place = Err (record {})
traced (e ∷ es) zero = Ok e
traced (e ∷ es) (suc place) = traced es place

abbrev pub no_entry_number : ℕ
no_entry_number = 14
