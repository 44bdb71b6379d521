-- The order of IRIs by their bytes.
use Rattle.std.proofs.Common.{◌≡◌, ℕ, Bool, true, false, cond, eqb, ltb, List, [], ◌∷◌, Some, sym, refl, ap, ◌∙◌, ap₂, arith, ltb-false, ltb-true, lt-ltb, eq-eqb, ne_eqb, eqb-true}
use Rattle.std.proofs.lemmas.Cmp.{same_from_slice_cmp_tested}
use Rattle.std.proofs.lemmas.Bool.Decides.{nat_tests}
use Rattle.std.specs.Cmp.Lexicographic.{slice_partial_cmp}
use Rattle.std.specs.Ordering.{nat_cmp, is_lt, is_some_and}
use borrow.Author.Tests.{eqb-false}
use Rattle.needs.specs.Needs.{before}
use Rattle.needs.specs.Needs as goal

pub not_itself : goal.NothingBeforeItself
not_itself [] = refl
not_itself (x ∷ xs) = ap (λ b. cond b (before xs xs) (ltb x x)) (eq-eqb x x refl) ∙ not_itself xs

-- what it is to be before, by cases of the first bytes
same_first : (x y : ℕ) (xs ys : List ℕ) → x ≡ y → before (x ∷ xs) (y ∷ ys) ≡ before xs ys
same_first x y xs ys e = ap (λ b. cond b (before xs ys) (ltb x y)) (eq-eqb x y e)

other_first : (x y : ℕ) (xs ys : List ℕ) → (x ≡ y → ⊥) → before (x ∷ xs) (y ∷ ys) ≡ ltb x y
other_first x y xs ys e = ap (λ b. cond b (before xs ys) (ltb x y)) (ne_eqb x y e)

pub goes_on : goal.BeforeGoesOn
goes_on [] [] z e f = let w : ◌≡◌ {A = ℕ} 0 1 = cc in absurd (omega arith)
goes_on [] (y ∷ ys) [] e f = let w : ◌≡◌ {A = ℕ} 0 1 = cc in absurd (omega arith)
goes_on [] (y ∷ ys) (z ∷ zs) e f = refl
goes_on (x ∷ xs) [] z e f = let w : ◌≡◌ {A = ℕ} 0 1 = cc in absurd (omega arith)
goes_on (x ∷ xs) (y ∷ ys) [] e f = let w : ◌≡◌ {A = ℕ} 0 1 = cc in absurd (omega arith)
goes_on (x ∷ xs) (y ∷ ys) (z ∷ zs) e f = go (eqb x y) refl (eqb y z) refl (λ a b. goes_on xs ys zs a b)
  where
    go : (a : Bool) → eqb x y ≡ a → (b : Bool) → eqb y z ≡ b → (before xs ys ≡ true → before ys zs ≡ true → before xs zs ≡ true) → before (x ∷ xs) (z ∷ zs) ≡ true
    go true p true q r =
        let i = eqb-true x y p in
        let j = eqb-true y z q in
        same_first x z xs zs (i ∙ j) ∙ r (sym (same_first x y xs ys i) ∙ e) (sym (same_first y z ys zs j) ∙ f)
    go true p false q r =
        let i = eqb-true x y p in
        let l = ltb-true y z (sym (other_first y z ys zs (eqb-false y z q)) ∙ f) in
        other_first x z xs zs (λ h. omega (arith, h, i, l)) ∙ lt-ltb x z (omega (arith, i, l))
    go false p true q r =
        let j = eqb-true y z q in
        let l = ltb-true x y (sym (other_first x y xs ys (eqb-false x y p)) ∙ e) in
        other_first x z xs zs (λ h. omega (arith, h, j, l)) ∙ lt-ltb x z (omega (arith, j, l))
    go false p false q r =
        let l = ltb-true x y (sym (other_first x y xs ys (eqb-false x y p)) ∙ e) in
        let m = ltb-true y z (sym (other_first y z ys zs (eqb-false y z q)) ∙ f) in
        other_first x z xs zs (λ h. omega (arith, h, l, m)) ∙ lt-ltb x z (omega (arith, l, m))

pub neither-equal : goal.NeitherBeforeIsEqual
neither-equal [] [] e f = refl
neither-equal [] (y ∷ ys) e f = let w : ◌≡◌ {A = ℕ} 0 1 = cc in absurd (omega arith)
neither-equal (x ∷ xs) [] e f = let w : ◌≡◌ {A = ℕ} 0 1 = cc in absurd (omega arith)
neither-equal (x ∷ xs) (y ∷ ys) e f = go (eqb x y) refl (λ a b. neither-equal xs ys a b)
  where
    go : (a : Bool) → eqb x y ≡ a → (before xs ys ≡ false → before ys xs ≡ false → xs ≡ ys) → x ∷ xs ≡ y ∷ ys
    go true p r =
        let i = eqb-true x y p in
        ap₂ ◌∷◌ i (r (sym (same_first x y xs ys i) ∙ e) (sym (same_first y x ys xs (sym i)) ∙ f))
    go false p r =
        let n = eqb-false x y p in
        let a = ltb-false x y (sym (other_first x y xs ys n) ∙ e) in
        let b = ltb-false y x (sym (other_first y x ys xs (λ h. n (sym h))) ∙ f) in
        absurd (n (omega (arith, a, b)))

-- ---- comparing

pub is_before : (x y : List ℕ) (r : Bool) → r ≡ is_some_and is_lt (slice_partial_cmp (λ a b. Some (nat_cmp a b)) x y) → r ≡ before x y
is_before = same_from_slice_cmp_tested nat_cmp is_lt before refl (λ _ _. refl) (λ _ _. refl) (λ x y xs ys o h. grind (arith, nat_tests))
