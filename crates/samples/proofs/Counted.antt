-- One document that names n objects: how many pairs its questions have.
use Rattle.std.proofs.Common.{◌≡◌, ℕ, zero, suc, ◌+◌, ◌≤◌, ◌<◌, true, false, cond, ◌&&◌, eqb, List, [], ◌∷◌, ◌++◌, length, Some, None, Bool, sym, refl, ap, ◌∙◌, subst, ap₂, ◌⊎◌, inl, inr, arith}
use Rattle.std.proofs.lemmas.Bool.{and_parts}
use Rattle.grammar.specs.Syntax.{link, inverse, star, sequence, constant, variable, line, opt}
use Rattle.semantics.specs.Terms.{Exact, In, any}
use Rattle.semantics.specs.Rows.{Row, given, compatible}
use Rattle.semantics.specs.Graphs.{pair}
use Rattle.semantics.specs.Meaning.{stand, merges, possible}
use Rattle.semantics.proofs.Lists.{clash, by_test, any_in, any_from, in_left, in_right, in_gather, gather_in, in_has}
use Rattle.semantics.proofs.Bytes.{eqb_tells, eqb_told}
use Rattle.semantics.proofs.Links.{star_onward, star_here, star_once}
use Rattle.semantics.proofs.Possible.{in_one}
use Rattle.walks.specs.Plans.{Asking, path, part, to_path, from_left_side, to_left_step, from_left_step, to_right_step, from_right_step, star_onward as onwards, star_backward as backwards, Reached, here, there}
use Rattle.walks.specs.Crowds.{Apart, Crowd, Crowded, rows, pairs, onward, backward}
use Rattle.walks.specs.Promises.{whole}
use Rattle.walks.proofs.Crowding.{apart_length}
use Rattle.walks.proofs.Growth.{one_in, merges_in}
use Rattle.samples.specs.Many.{numbers, facts, up_to, naming, all_named, reaches_one, leads_nowhere, only_zero, ObjectsAreCounted, ClosureIsCounted, MiddleTermsAreCounted, OwnRowsAreCounted}

exact : Exact numbers
exact = record { tells = eqb_tells; told = eqb_told }

-- ---- the facts

fact_bound : (n : ℕ) (t : ℕ × ℕ) → In t (facts n) → t.1 ≤ n
fact_bound zero t i = elim i [ ]
fact_bound (suc n) t (inl e) = let f = ap (λ z. z.1) e in omega (arith, f)
fact_bound (suc n) t (inr i) = let r = fact_bound n t i in omega (arith, r)

facts_apart : (n : ℕ) → Apart (facts n)
facts_apart zero = tt
facts_apart (suc n) = (λ i. let r = fact_bound n (0, suc n) i in omega (arith, r), facts_apart n)

facts_length : (n : ℕ) → length (facts n) ≡ n
facts_length zero = refl
facts_length (suc n) = ap suc (facts_length n)

named_bound : (n m : ℕ) → In m (up_to n) → m ≤ n
named_bound zero m (inl e) = omega (arith, e)
named_bound zero m (inr i) = elim i [ ]
named_bound (suc n) m (inl e) = omega (arith, e)
named_bound (suc n) m (inr i) = let r = named_bound n m i in omega (arith, r)

named_apart : (n : ℕ) → Apart (up_to n)
named_apart zero = (λ i. elim i [ ], tt)
named_apart (suc n) = (λ i. let r = named_bound n (suc n) i in omega (arith, r), named_apart n)

named_length : (n : ℕ) → length (up_to n) ≡ suc n
named_length zero = refl
named_length (suc n) = ap suc (named_length n)

zero_named : (n : ℕ) → In 0 (up_to n)
zero_named zero = inl refl
zero_named (suc n) = inr (zero_named n)

fact_named : (n b : ℕ) → In (0, b) (facts n) → In b (up_to n)
fact_named zero b i = elim i [ ]
fact_named (suc n) b (inl e) = inl (ap (λ z. z.1) e)
fact_named (suc n) b (inr i) = inr (fact_named n b i)

named_fact : (n b : ℕ) → In b (up_to n) → (b ≡ 0) ⊎ In (0, b) (facts n)
named_fact zero b (inl e) = inl e
named_fact zero b (inr i) = elim i [ ]
named_fact (suc n) b (inl e) = inr (inl (ap (λ z. (0, z)) e))
named_fact (suc n) b (inr i) = elim (named_fact n b i) [ inl e ↦ inl e | inr j ↦ inr (inr j) ]

facts_from_zero : (n : ℕ) (t : ℕ × ℕ) → In t (facts n) → t ≡ (0, t.1)
facts_from_zero zero t i = elim i [ ]
facts_from_zero (suc n) t (inl e) = e ∙ ap (λ z. (0, z.1)) (sym e)
facts_from_zero (suc n) t (inr i) = facts_from_zero n t i

-- ---- pairs of the predicate

linked_fact : (n a b : ℕ) → pair numbers (naming n) (link 0) a b ≡ true → (a ≡ 0) × In (0, b) (facts n)
linked_fact n a b h = by_test (eqb a 0)
    (λ e. let r = any_in _ (facts n) (subst (λ t. pairing (cond t (facts n) [])) e h) in
    let s = and_parts (eqb 0 r.0.0) (eqb b r.0.1) r.2 in
    (eqb_tells a 0 e, subst (λ t. In t (facts n)) (facts_from_zero n r.0 r.1 ∙ ap (λ z. (0, z)) (sym (eqb_tells b r.0.1 s.1))) r.1))
    (λ e. clash (subst (λ t. pairing (cond t (facts n) [])) e h) refl)
  where
    pairing : List (ℕ × ℕ) → Type 0
    pairing c = any (λ t. eqb 0 t.0 && eqb b t.1) c ≡ true

fact_linked : (n b : ℕ) → In (0, b) (facts n) → pair numbers (naming n) (link 0) 0 b ≡ true
fact_linked n b i = any_from (λ t. eqb 0 t.0 && eqb b t.1) (facts n) (0, b) i (eqb_told b)

-- ---- what is counted

crowd_size : {B : Type 0} (P : B → Type 0) (m : List B) (n : ℕ) → length m ≡ n → ((x : B) → P x → In x m) → Crowd P → 256 < n
crowd_size P m n e h c = let r = apart_length c.members m c.apart (λ z i. h z (c.each z i)) in let s = c.many in omega (arith, r, s, e)

pair_fact : (n : ℕ) (c : ℕ × ℕ) → pair numbers (naming n) (link 0) c.0 c.1 ≡ true → In c (facts n)
pair_fact n c h = let r = linked_fact n c.0 c.1 h in subst (λ z. In (z, c.1) (facts n)) (sym r.0) r.1

rows_from : List (ℕ × ℕ) → List (Row ℕ)
rows_from [] = []
rows_from (t ∷ l) = (Some t.1 ∷ []) ∷ rows_from l

rows_length : (l : List (ℕ × ℕ)) → length (rows_from l) ≡ length l
unfolding rows_from
rows_length [] = refl
rows_length (t ∷ l) = ap suc (rows_length l)

in_rows_from : (l : List (ℕ × ℕ)) (t : ℕ × ℕ) → In t l → In (Some t.1 ∷ []) (rows_from l)
unfolding rows_from
in_rows_from [] t i = elim i [ ]
in_rows_from (s ∷ l) t (inl e) = inl (ap (λ z. Some z.1 ∷ []) e)
in_rows_from (s ∷ l) t (inr i) = inr (in_rows_from l t i)

named_row : (n : ℕ) (a : Row ℕ) → In a (possible numbers (naming n) all_named) → In a (rows_from (facts n))
named_row n a i =
    let s = in_gather _ (up_to n) a i in
    let t = in_gather _ (up_to n) a s.2 in
    let c = in_one (stand numbers (constant 0) (variable 0) s.0 t.0 && pair numbers (naming n) (link 0) s.0 t.0) (Some t.0 ∷ []) a t.2 in
    let p = and_parts (stand numbers (constant 0) (variable 0) s.0 t.0) (pair numbers (naming n) (link 0) s.0 t.0) c.0 in
    subst (λ z. In z (rows_from (facts n))) (sym c.1) (in_rows_from (facts n) (0, t.0) (linked_fact n s.0 t.0 p.1).1)

objects_fit : (n : ℕ) (y : Asking ℕ) → Reached numbers (naming n) (whole all_named) y → Crowded numbers (naming n) y → 256 < n
objects_fit n y here (rows c) = crowd_size _ (rows_from (facts n)) n (rows_length (facts n) ∙ facts_length n) (λ a h. named_row n a h.0) c
objects_fit n y (there to_path here) (pairs c) = crowd_size _ (facts n) n (facts_length n) (λ a h. pair_fact n a h.2) c
objects_fit n y (there to_path (there l r)) c = elim l [ ]

object_pairs : (n : ℕ) → 256 < n → Crowded numbers (naming n) (path true false (link 0) (Some 0) None)
object_pairs n h = pairs (record { members = facts n; apart = facts_apart n; many = subst (λ z. 256 < z) (sym (facts_length n)) h; each = each })
  where
    each : (c : ℕ × ℕ) → In c (facts n) → (eqb 0 c.0 ≡ true) × (true ≡ true) × (pair numbers (naming n) (link 0) c.0 c.1 ≡ true)
    each c i =
        let e = facts_from_zero n c i in
        (ap (λ z. eqb 0 z.0) e, refl, subst (λ z. pair numbers (naming n) (link 0) z.0 z.1 ≡ true) (sym e) (fact_linked n c.1 (subst (λ z. In z (facts n)) e i)))

pub objects_are_counted : ObjectsAreCounted
objects_are_counted n = (
  λ t. objects_fit n t.asking t.reached t.crowded,
  λ h. record { asking = path true false (link 0) (Some 0) None; reached = there to_path here; crowded = object_pairs n h },
)

-- ---- middle terms

no_fact : (n a b : ℕ) → pair numbers (naming n) (link 1) a b ≡ true → ⊥
no_fact n a b h = by_test (eqb a 0)
    (λ e. let r = any_in _ (facts n) (subst (λ t. leading (cond t (facts n) [])) e h) in
    clash (and_parts (eqb 1 r.0.0) (eqb b r.0.1) r.2).0 (ap (λ z. eqb 1 z.0) (facts_from_zero n r.0 r.1)))
    (λ e. clash (subst (λ t. leading (cond t (facts n) [])) e h) refl)
  where
    leading : List (ℕ × ℕ) → Type 0
    leading c = any (λ t. eqb 1 t.0 && eqb b t.1) c ≡ true

no_way : (n a b : ℕ) → pair numbers (naming n) (sequence (link 0) (link 1)) a b ≡ true → ⊥
no_way n a b h =
    let r = any_in _ (up_to n) h in
    no_fact n r.0 b (and_parts (pair numbers (naming n) (link 0) a r.0) (pair numbers (naming n) (link 1) r.0 b) r.2).1

nobody : {B : Type 0} (P : B → Type 0) → ((x : B) → P x → ⊥) → Crowd P → ⊥
nobody P h c = let r = crowd_size P [] 0 refl h c in omega (arith, r)

no_row : (n : ℕ) (a : Row ℕ) → In a (possible numbers (naming n) leads_nowhere) → ⊥
no_row n a i =
    let p = sequence (link 0) (link 1) in
    let s = in_gather _ (up_to n) a i in
    let t = in_gather _ (up_to n) a s.2 in
    let c = in_one (stand numbers (constant 0) (variable 0) s.0 t.0 && pair numbers (naming n) p s.0 t.0) (Some t.0 ∷ []) a t.2 in
    no_way n s.0 t.0 (and_parts (stand numbers (constant 0) (variable 0) s.0 t.0) (pair numbers (naming n) p s.0 t.0) c.0).1

middles_fit : (n : ℕ) (y : Asking ℕ) → Reached numbers (naming n) (whole leads_nowhere) y → Crowded numbers (naming n) y → 256 < n
middles_fit n y here (rows c) = absurd (nobody _ (λ a h. no_row n a h.0) c)
middles_fit n y (there to_path here) (pairs c) = absurd (nobody _ (λ a h. no_way n a.0 a.1 h.2) c)
middles_fit n y (there to_path (there (to_left_step e) here)) (pairs c) = crowd_size _ (facts n) n (facts_length n) (λ a h. pair_fact n a h.2) c
middles_fit n y (there to_path (there (to_left_step e) (there l r))) c = elim l [ ]
middles_fit n y (there to_path (there (from_left_step e a m f h) here)) (pairs c) = absurd (nobody _ (λ a h. no_fact n a.0 a.1 h.2) c)
middles_fit n y (there to_path (there (from_left_step e a m f h) (there l r))) c = elim l [ ]
middles_fit n y (there to_path (there (to_right_step e) r)) c = clash refl e
middles_fit n y (there to_path (there (from_right_step e m b f h) r)) c = clash refl e

pub middle_terms_are_counted : MiddleTermsAreCounted
middle_terms_are_counted n = (
  λ t. middles_fit n t.asking t.reached t.crowded,
  λ h. record { asking = path true false (link 0) (Some 0) None; reached = there to_path (there (to_left_step refl) here); crowded = object_pairs n h },
)

-- ---- the star

star_named : (n m : ℕ) → pair numbers (naming n) (star (link 0)) 0 m ≡ true → In m (up_to n)
star_named n m h = star_onward exact (naming n) (link 0) (λ z. In z (up_to n)) (λ u v e i. fact_named n v (linked_fact n u v e).1) 0 m h (zero_named n)

named_star : (n m : ℕ) → In m (up_to n) → pair numbers (naming n) (star (link 0)) 0 m ≡ true
named_star n m i = elim (named_fact n m i) [
  | inl e ↦ subst (λ z. pair numbers (naming n) (star (link 0)) 0 z ≡ true) (sym e) (star_here exact (naming n) (link 0) 0 (in_has exact 0 (up_to n) (zero_named n)))
  | inr j ↦ star_once exact (naming n) (link 0) 0 m (fact_linked n m j)
]

one_row : (n : ℕ) (a : Row ℕ) → In a (possible numbers (naming n) reaches_one) → In a ([] ∷ [])
one_row n a i =
    let s = in_gather _ (up_to n) a i in
    let t = in_gather _ (up_to n) a s.2 in
    inl (in_one (stand numbers (constant 0) (constant 1) s.0 t.0 && pair numbers (naming n) (star (link 0)) s.0 t.0) [] a t.2).1

closure_fits : (n : ℕ) (y : Asking ℕ) → Reached numbers (naming n) (whole reaches_one) y → Crowded numbers (naming n) y → 255 < n
closure_fits n y here (rows c) = let r = crowd_size _ ([] ∷ []) 1 refl (λ a h. one_row n a h.0) c in absurd (omega (arith, r))
closure_fits n y (there to_path here) (pairs c) =
    let r = crowd_size _ ((0, 1) ∷ []) 1 refl (λ a h. inl (ap₂ (λ u v. (u, v)) (sym (eqb_tells 0 a.0 h.0)) (sym (eqb_tells 1 a.1 h.1)))) c in absurd (omega (arith, r))
closure_fits n y (there to_path here) (onward e a f c) =
    let r = crowd_size _ (up_to n) (suc n) (named_length n) (λ m h. star_named n m (subst (λ z. pair numbers (naming n) (star (link 0)) z m ≡ true) (sym (eqb_tells 0 a f)) h)) c in omega (arith, r)
closure_fits n y (there to_path here) (backward e b f c) = clash refl e
closure_fits n y (there to_path (there (onwards e a m f h) here)) (pairs c) =
    let r = crowd_size _ (facts n) n (facts_length n) (λ a h. pair_fact n a h.2) c in omega (arith, r)
closure_fits n y (there to_path (there (onwards e a m f h) (there l r))) c = elim l [ ]
closure_fits n y (there to_path (there (backwards e m b f h) r)) c = clash refl e

pub closure_is_counted : ClosureIsCounted
closure_is_counted n = (
  λ t. closure_fits n t.asking t.reached t.crowded,
  λ h. record {
    asking = path true true (star (link 0)) (Some 0) (Some 1);
    reached = there to_path here;
    crowded = onward refl 0 refl (record { members = up_to n; apart = named_apart n; many = subst (λ z. 256 < z) (sym (named_length n)) (omega (arith, h)); each = named_star n });
  },
)

-- ---- own rows

-- each object without ?x and with it
two_rows : ℕ → List (Row ℕ)
two_rows zero = []
two_rows (suc n) = (None ∷ Some (suc n) ∷ []) ∷ (Some 0 ∷ Some (suc n) ∷ []) ∷ two_rows n

object_of : Row ℕ → ℕ
object_of r = elim (given r 1) [ None ↦ 0 | Some k ↦ k ]

gives_x : Row ℕ → Bool
gives_x r = elim (given r 0) [ None ↦ false | Some k ↦ true ]

two_rows_bound : (n : ℕ) (r : Row ℕ) → In r (two_rows n) → object_of r ≤ n
unfolding two_rows object_of
two_rows_bound zero r i = elim i [ ]
two_rows_bound (suc n) r (inl e) = let f = ap object_of e in omega (arith, f)
two_rows_bound (suc n) r (inr (inl e)) = let f = ap object_of e in omega (arith, f)
two_rows_bound (suc n) r (inr (inr i)) = let h = two_rows_bound n r i in omega (arith, h)

two_rows_apart : (n : ℕ) → Apart (two_rows n)
unfolding two_rows object_of gives_x
two_rows_apart zero = tt
two_rows_apart (suc n) = (
  λ i. elim i [
    | inl e ↦ clash (ap gives_x e) refl
    | inr j ↦ (let h = two_rows_bound n (None ∷ Some (suc n) ∷ []) j in omega (arith, h))
  ],
  (λ j. let h = two_rows_bound n (Some 0 ∷ Some (suc n) ∷ []) j in omega (arith, h), two_rows_apart n),
)

two_rows_length : (n : ℕ) → length (two_rows n) ≡ n + n
unfolding two_rows
two_rows_length zero = refl
two_rows_length (suc n) = let h = two_rows_length n in omega (arith, h)

zero_row : (n : ℕ) → In (Some 0 ∷ []) (possible numbers (naming n) only_zero)
zero_row n =
    let p = star (inverse (link 1)) in
    gather_in _ (up_to n) 0 (Some 0 ∷ []) (zero_named n) (gather_in _ (up_to n) 0 (Some 0 ∷ []) (zero_named n)
    (one_in (stand numbers (variable 0) (constant 0) 0 0 && pair numbers (naming n) p 0 0) _ (Some 0 ∷ [])
    (star_here exact (naming n) (inverse (link 1)) 0 (in_has exact 0 (up_to n) (zero_named n))) refl))

object_row : (n k : ℕ) → In (0, k) (facts n) → In (None ∷ Some k ∷ []) (possible numbers (naming n) (line (constant 0) (link 0) (variable 1)))
object_row n k i =
    gather_in _ (up_to n) 0 (None ∷ Some k ∷ []) (zero_named n) (gather_in _ (up_to n) k (None ∷ Some k ∷ []) (fact_named n k i)
    (one_in (stand numbers (constant 0) (variable 1) 0 k && pair numbers (naming n) (link 0) 0 k) _ (None ∷ Some k ∷ []) (fact_linked n k i) refl))

two_rows_possible : (n m : ℕ) → ((k : ℕ) → In (0, k) (facts m) → In (0, k) (facts n)) → (r : Row ℕ) → In r (two_rows m)
    → In r (possible numbers (naming n) (opt (line (constant 0) (link 0) (variable 1)) only_zero)) × (compatible numbers (Some 0 ∷ []) r ≡ true)
unfolding two_rows
two_rows_possible n zero h r i = elim i [ ]
two_rows_possible n (suc m) h r (inl e) =
    let B = possible numbers (naming n) (line (constant 0) (link 0) (variable 1)) in
    let A = possible numbers (naming n) only_zero in (
      subst (λ z. In z (merges numbers B A ++ B)) (sym e) (in_right (None ∷ Some (suc m) ∷ []) (merges numbers B A) B (object_row n (suc m) (h (suc m) (inl refl)))),
      ap (compatible numbers (Some 0 ∷ [])) e,
    )
two_rows_possible n (suc m) h r (inr (inl e)) =
    let B = possible numbers (naming n) (line (constant 0) (link 0) (variable 1)) in
    let A = possible numbers (naming n) only_zero in (
      in_left r (merges numbers B A) B (merges_in numbers B A (None ∷ Some (suc m) ∷ []) (Some 0 ∷ []) r (object_row n (suc m) (h (suc m) (inl refl))) (zero_row n) refl e),
      ap (compatible numbers (Some 0 ∷ [])) e,
    )
two_rows_possible n (suc m) h r (inr (inr i)) = two_rows_possible n m (λ k j. h k (inr j)) r i

pub own_rows_are_counted : OwnRowsAreCounted
own_rows_are_counted n h = record {
  asking = part 1 (opt (line (constant 0) (link 0) (variable 1)) only_zero) (Some 0 ∷ []);
  reached = there (from_left_side refl (Some 0 ∷ []) (zero_row n) refl) here;
  crowded = rows (record {
    members = two_rows n;
    apart = two_rows_apart n;
    many = let e = two_rows_length n in omega (arith, e, h);
    each = two_rows_possible n n (λ k i. i);
  });
}
