-- Of the IRIs that are wanted: which is to be looked up next, and which has no document to answer from.
use Rattle.std.specs.Prelude.{◌≡◌, ℕ, suc, ◌<◌, ◌≤◌, Bool, true, false, cond, not, ◌&&◌, List, [], ◌∷◌, length, is_some, Some, None, Option, ◌==◌, nat_lt, slice_index_or}
use Rattle.terms.specs.Terms.{Term}
use Rattle.lexicon.specs.Numbering.{tell, term_at}
use Rattle.shelf.specs.declared.items.Mark.{Mark}
use Rattle.shelf.specs.declared.items.Mark.TheVariants.{Found, Absent, Broken, Unfit}
use Rattle.store.specs.declared.record.Entry.{Entry}
use Rattle.store.specs.State.{State}
use Rattle.store.specs.Looking.{address_of}

-- ---- places in the record

-- the first place, from 0, at which a test is passed
unfoldable pub first_where : (Entry → Bool) → List Entry → Option ℕ
first_where p [] = None
first_where p (e ∷ es) = cond (p e) (Some 0) (tell suc (first_where p es))

abbrev pub is_of : ℕ → Entry → Bool
is_of n e = e.iri == n

-- terms are wanted by number
abbrev pub wanted_at : List Bool → ℕ → Bool
wanted_at ws n = slice_index_or ws n false

-- looked up, and no document to answer from
abbrev pub spoilt : Mark → Bool
spoilt (Found n) = false
spoilt Absent = false
spoilt (Broken code place) = true
spoilt Unfit = true

abbrev pub is_spoilt : List Bool → Entry → Bool
is_spoilt ws e = wanted_at ws e.iri && spoilt e.mark

-- ---- the order of IRIs

-- by their bytes; one that another begins with comes before it
abbrev pub before : List ℕ → List ℕ → Bool
before [] [] = false
before [] (y ∷ ys) = true
before (x ∷ xs) [] = false
before (x ∷ xs) (y ∷ ys) = cond (x == y) (before xs ys) (nat_lt x y)

abbrev pub lower : Option Term → Option Term → Bool
lower None u = false
lower (Some t) None = false
lower (Some t) (Some u) = before t.bytes u.bytes

-- ---- what is missing

-- an IRI that is wanted and was not looked up
unfoldable pub missing : State → List Bool → ℕ → Bool
missing s ws n = wanted_at ws n && is_some (address_of (term_at s.terms n)) && not (is_some (first_where (is_of n) s.entries))

-- the lowest of those that are missing; none where nothing is
abbrev pub Lowest : State → List Bool → Option ℕ → Type 0
Lowest s ws None = (n : ℕ) → missing s ws n ≡ false
Lowest s ws (Some n) = (missing s ws n ≡ true) × ((m : ℕ) → missing s ws m ≡ true → lower (term_at s.terms m) (term_at s.terms n) ≡ false)

-- the lower of two terms, by number
abbrev pub lower_of : List Term → ℕ → Option ℕ → ℕ
lower_of ts n None = n
lower_of ts n (Some m) = cond (lower (term_at ts n) (term_at ts m)) n m

-- the same of the first numbers, up to k
abbrev pub LowestTo : State → List Bool → ℕ → Option ℕ → Type 0
LowestTo s ws k None = (n : ℕ) → n ≤ k → missing s ws n ≡ false
LowestTo s ws k (Some n) = (missing s ws n ≡ true) × ((m : ℕ) → m ≤ k → missing s ws m ≡ true → lower (term_at s.terms m) (term_at s.terms n) ≡ false)

-- ---- laws

abbrev pub FirstIsTheFirst : Type 0
FirstIsTheFirst = (p : Entry → Bool) (es : List Entry) (i : ℕ) (d : Entry) → first_where p es ≡ Some i → (i < length es) × (p (slice_index_or es i d) ≡ true) × ((k : ℕ) → k < i → p (slice_index_or es k d) ≡ false)

abbrev pub NoneIsNone : Type 0
NoneIsNone = (p : Entry → Bool) (es : List Entry) (k : ℕ) (d : Entry) → first_where p es ≡ None → k < length es → p (slice_index_or es k d) ≡ false

abbrev pub NothingBeforeItself : Type 0
NothingBeforeItself = (x : List ℕ) → before x x ≡ false

abbrev pub BeforeGoesOn : Type 0
BeforeGoesOn = (x y z : List ℕ) → before x y ≡ true → before y z ≡ true → before x z ≡ true

abbrev pub NeitherBeforeIsEqual : Type 0
NeitherBeforeIsEqual = (x y : List ℕ) → before x y ≡ false → before y x ≡ false → x ≡ y
