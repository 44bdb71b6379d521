-- Laws of what a lookup adds.
use Rattle.std.specs.Prelude.{◌≡◌, ℕ, ◌<◌, ◌≤◌, true, false, List, [], ◌∷◌, ◌++◌, map, length, take, drop}
use Rattle.terms.specs.Terms.{Term}
use Rattle.lexicon.specs.Numbering.{number_of, within}
use Rattle.shelf.specs.declared.items.Listed.{Listed}
use Rattle.web.specs.Meaning.{Triple, Told, found}
use Rattle.shelf.specs.declared.items.Mark.{Mark}
use Rattle.shelf.specs.declared.items.Mark.TheVariants.{Unfit}
use Rattle.store.specs.State.{State, fresh, fits, noted, listed, total}

-- one entry more, that of the IRI which was looked up
abbrev pub RecordGrowsByOne : Type 0
RecordGrowsByOne = (t : Told) (n : ℕ) (s : State) → (m : Mark) × ((noted t n s).entries ≡ s.entries ++ record { iri = n; mark = m } ∷ [])

abbrev pub TriplesOnlyGrow : Type 0
TriplesOnlyGrow = (t : Told) (n : ℕ) (s : State) → (more : List Listed) × ((noted t n s).triples ≡ s.triples ++ more)

abbrev pub KnownTermsKeepTheirNumbers : Type 0
KnownTermsKeepTheirNumbers = (t : Told) (n : ℕ) (s : State) (u : Term) → 0 < number_of s.terms u → number_of (noted t n s).terms u ≡ number_of s.terms u

abbrev pub UnfitChangesTheRecordAlone : Type 0
UnfitChangesTheRecordAlone = (xs : List Triple) (n : ℕ) (s : State) → fits s xs ≡ false
    → ((noted (found xs) n s).terms ≡ s.terms) × ((noted (found xs) n s).triples ≡ s.triples) × ((noted (found xs) n s).entries ≡ s.entries ++ record { iri = n; mark = Unfit } ∷ [])

-- the sizes in the record add up to the triples that are kept
abbrev pub SizesAddUp : Type 0
SizesAddUp = (total fresh.entries ≡ length fresh.triples) × ((t : Told) (n : ℕ) (s : State) → total s.entries ≡ length s.triples → total (noted t n s).entries ≡ length (noted t n s).triples)

-- a list that fits stands behind all that the record had before, with every term known
abbrev pub FoundListsStandWhole : Type 0
FoundListsStandWhole = (xs : List Triple) (n : ℕ) (s : State) → fits s xs ≡ true → total s.entries ≡ length s.triples
    → take (length xs) (drop (total s.entries) (noted (found xs) n s).triples) ≡ map (listed (noted (found xs) n s).terms) xs

abbrev pub LimitsHold : Type 0
LimitsHold = (t : Told) (n : ℕ) (s : State) → within s.terms ≡ true → length s.triples ≤ 4096 → (within (noted t n s).terms ≡ true) × (length (noted t n s).triples ≤ 4096)
