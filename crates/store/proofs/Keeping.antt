-- What a lookup adds, and that it takes nothing away.
use Rattle.std.proofs.Common.{◌≡◌, ℕ, ◌+◌, ◌<◌, ◌≤◌, Bool, true, false, cond, ◌&&◌, leb, List, [], ◌∷◌, ◌++◌, map, length, take, drop, sym, refl, ap, ◌∙◌, ap₂, append-nil, arith, length-append, take_all, drop_at, le-leb, leb-true}
use lib.ListN.{length-map}
use Rattle.terms.specs.Terms.{Term}
use Rattle.lexicon.specs.Numbering.{number_of, enter_all, within}
use Rattle.lexicon.proofs.Numbers.{and_left, and_right, number_stays}
use Rattle.shelf.specs.declared.items.Listed.{Listed}
use Rattle.web.specs.Meaning.{Triple, Told, found, absent, broken}
use Rattle.shelf.specs.declared.items.Mark.{Mark}
use Rattle.shelf.specs.declared.items.Mark.TheVariants.{Found, Absent, Broken, Unfit}
use Rattle.store.specs.declared.record.Entry.{Entry}
use Rattle.shelf.specs.Contexts.{size}
use Rattle.store.specs.State.{State, parts_of, listed, fits, marked, shelved, noted, total}
use Rattle.store.specs.Laws as law

pub fits_is : (s : State) (xs : List Triple) → fits s xs ≡ true → (length s.triples + length xs ≤ 4096) × (within (enter_all s.terms (parts_of xs)) ≡ true)
unfolding fits
fits_is s xs e = (leb-true _ _ (and_left (leb (length s.triples + length xs) 4096) _ e), and_right (leb (length s.triples + length xs) 4096) _ e)

pub is_fit : (s : State) (xs : List Triple) → length s.triples + length xs ≤ 4096 → within (enter_all s.terms (parts_of xs)) ≡ true → fits s xs ≡ true
unfolding fits
is_fit s xs a b = ap₂ ◌&&◌ (le-leb _ _ a) b

-- what holds of an entry more, of each kind, holds of what is kept
each : (P : Told → ℕ → State → State → Type 0) → ((xs : List Triple) (n : ℕ) (s : State) → fits s xs ≡ true → P (found xs) n s (shelved xs n s)) → ((t : Told) (m : Mark) (n : ℕ) (s : State) → size m ≡ 0 → P t n s (marked m n s)) → (t : Told) (n : ℕ) (s : State) → P t n s (noted t n s)
each P f g (found xs) n s = go (fits s xs) refl
  where
    go : (b : Bool) → fits s xs ≡ b → P (found xs) n s (cond b (shelved xs n s) (marked Unfit n s))
    go true e = f xs n s e
    go false e = g (found xs) Unfit n s refl
each P f g absent n s = g absent Absent n s refl
each P f g (broken m) n s = g (broken m) (Broken m.code m.place) n s refl

pub record_grows : law.RecordGrowsByOne
record_grows = each (λ t n s u. (m : Mark) × (u.entries ≡ s.entries ++ record { iri = n; mark = m } ∷ [])) (λ xs n s e. (Found (length xs), refl)) (λ t m n s z. (m, refl))

pub triples_grow : law.TriplesOnlyGrow
triples_grow = each (λ t n s u. (more : List Listed) × (u.triples ≡ s.triples ++ more)) (λ xs n s e. (map (listed (enter_all s.terms (parts_of xs))) xs, refl)) (λ t m n s z. ([], sym (append-nil s.triples)))

pub numbers_stay : law.KnownTermsKeepTheirNumbers
numbers_stay = each (λ t n s v. (u : Term) → 0 < number_of s.terms u → number_of v.terms u ≡ number_of s.terms u) (λ xs n s e u h. number_stays s.terms (parts_of xs) u h) (λ t m n s z u h. refl)

pub unfit_alone : law.UnfitChangesTheRecordAlone
unfit_alone xs n s e =
    let is : noted (found xs) n s ≡ marked Unfit n s = ap (λ b. cond b (shelved xs n s) (marked Unfit n s)) e in
    (ap (λ (u : State). u.terms) is, ap (λ (u : State). u.triples) is, ap (λ (u : State). u.entries) is)

total_behind : (es : List Entry) (e : Entry) → total (es ++ e ∷ []) ≡ total es + size e.mark
total_behind [] e = omega arith
total_behind (d ∷ es) e = omega (arith, total_behind es e)

pub sizes_add_up : law.SizesAddUp
sizes_add_up = (
  refl,
  each (λ t n s u. total s.entries ≡ length s.triples → total u.entries ≡ length u.triples)
      (λ xs n s e h. total_behind s.entries (record { iri = n; mark = Found (length xs) }) ∙ omega (arith, h, length-append s.triples (map (listed (enter_all s.terms (parts_of xs))) xs), length-map xs (listed (enter_all s.terms (parts_of xs)))))
      (λ t m n s z h. total_behind s.entries (record { iri = n; mark = m }) ∙ omega (arith, h, z)),
)

pub lists_stand : law.FoundListsStandWhole
lists_stand xs n s e h =
    let is : noted (found xs) n s ≡ shelved xs n s = ap (λ b. cond b (shelved xs n s) (marked Unfit n s)) e in
    let f = listed (enter_all s.terms (parts_of xs)) in
    ap (λ (u : State). take (length xs) (drop (total s.entries) u.triples)) is
    ∙ ap (take (length xs)) (drop_at s.triples (map f xs) (total s.entries) (sym h))
    ∙ take_all (length xs) (map f xs) (omega (arith, length-map xs f))
    ∙ ap (λ (u : State). map (listed u.terms) xs) (sym is)

pub limits_hold : law.LimitsHold
limits_hold = each (λ t n s u. within s.terms ≡ true → length s.triples ≤ 4096 → (within u.terms ≡ true) × (length u.triples ≤ 4096))
    (λ xs n s e w h. let r = fits_is s xs e in (r.1, omega (arith, r.0, length-append s.triples (map (listed (enter_all s.terms (parts_of xs))) xs), length-map xs (listed (enter_all s.terms (parts_of xs))))))
    (λ t m n s z w h. (w, h))
