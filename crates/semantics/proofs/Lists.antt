-- Tests, and lists of terms.
use Rattle.std.proofs.Common.{◌≡◌, Bool, true, false, ◌&&◌, ◌||◌, ◌⊎◌, List, [], ◌∷◌, ◌++◌, sym, refl, ap, ◌∙◌, subst, inl, inr, arith}
use Rattle.std.proofs.lemmas.Bool.{or_left, or_right, or_cases, true≢false}
use Rattle.semantics.specs.Terms.{Terms, Exact, In, any, gather, has}

pub clash : {B : Type 0} {b : Bool} → b ≡ true → b ≡ false → B
clash p q = absurd (true≢false (sym p ∙ q))

-- two tests that hold together are equal
pub iff : (u v : Bool) → (u ≡ true → v ≡ true) → (v ≡ true → u ≡ true) → u ≡ v
iff true v f g = sym (f refl)
iff false true f g = g refl
iff false false f g = refl

pub not_true : (b : Bool) → (b ≡ true → ⊥) → b ≡ false
not_true true h = absurd (h refl)
not_true false h = refl

pub by_test : {B : Type 0} (t : Bool) → (t ≡ true → B) → (t ≡ false → B) → B
by_test true f g = f refl
by_test false f g = g refl

pub and_true : (b : Bool) → b && true ≡ b
and_true b = grind arith

pub or_second : (s t : Bool) → s || t ≡ true → s ≡ false → t ≡ true
or_second true t e f = clash refl f
or_second false t e f = e

-- ---- members

pub any_in : {B : Type 0} (f : B → Bool) (l : List B) → any f l ≡ true → (x : B) × In x l × (f x ≡ true)
any_in f [] e = clash e refl
any_in f (x ∷ l) e =
    elim (or_cases (f x) (any f l) e) [
      | inl h ↦ (x, inl refl, h)
      | inr h ↦ (let r = any_in f l h in (r.0, inr r.1, r.2))
    ]

pub any_from : {B : Type 0} (f : B → Bool) (l : List B) (x : B) → In x l → f x ≡ true → any f l ≡ true
any_from f [] x i e = elim i [ ]
any_from f (y ∷ l) x (inl i) e = or_left (f y) (any f l) (ap f (sym i) ∙ e)
any_from f (y ∷ l) x (inr i) e = or_right (f y) (any f l) (any_from f l x i e)

pub in_left : {B : Type 0} (x : B) (l m : List B) → In x l → In x (l ++ m)
in_left x [] m i = elim i [ ]
in_left x (y ∷ l) m (inl i) = inl i
in_left x (y ∷ l) m (inr i) = inr (in_left x l m i)

pub in_right : {B : Type 0} (x : B) (l m : List B) → In x m → In x (l ++ m)
in_right x [] m i = i
in_right x (y ∷ l) m i = inr (in_right x l m i)

pub in_either : {B : Type 0} (x : B) (l m : List B) → In x (l ++ m) → In x l ⊎ In x m
in_either x [] m i = inr i
in_either x (y ∷ l) m (inl i) = inl (inl i)
in_either x (y ∷ l) m (inr i) = elim (in_either x l m i) [ inl j ↦ inl (inr j) | inr j ↦ inr j ]

pub in_gather : {B C : Type 0} (g : B → List C) (l : List B) (y : C) → In y (gather g l) → (x : B) × In x l × In y (g x)
in_gather g [] y i = elim i [ ]
in_gather g (x ∷ l) y i =
    elim (in_either y (g x) (gather g l) i) [
      | inl h ↦ (x, inl refl, h)
      | inr h ↦ (let r = in_gather g l y h in (r.0, inr r.1, r.2))
    ]

pub gather_in : {B C : Type 0} (g : B → List C) (l : List B) (x : B) (y : C) → In x l → In y (g x) → In y (gather g l)
gather_in g [] x y i j = elim i [ ]
gather_in g (z ∷ l) x y (inl i) j = in_left y (g z) (gather g l) (subst (λ w. In y (g w)) i j)
gather_in g (z ∷ l) x y (inr i) j = in_right y (g z) (gather g l) (gather_in g l x y i j)

-- ---- terms

module _ {A : Type 0} {T : Terms A} (x : Exact T) where
  pub same_back : (a b : A) → T.same a b ≡ T.same b a
  same_back a b =
      iff (T.same a b) (T.same b a)
      (λ e. ap (λ c. T.same b c) (x.tells a b e) ∙ x.told b)
      (λ e. ap (λ c. T.same a c) (x.tells b a e) ∙ x.told a)

  pub has_in : (a : A) (l : List A) → has T a l ≡ true → In a l
  has_in a [] e = clash e refl
  has_in a (b ∷ l) e = elim (or_cases (T.same a b) (has T a l) e) [ inl h ↦ inl (x.tells a b h) | inr h ↦ inr (has_in a l h) ]

  pub in_has : (a : A) (l : List A) → In a l → has T a l ≡ true
  in_has a [] i = elim i [ ]
  in_has a (b ∷ l) (inl i) = or_left (T.same a b) (has T a l) (ap (λ c. T.same a c) (sym i) ∙ x.told a)
  in_has a (b ∷ l) (inr i) = or_right (T.same a b) (has T a l) (in_has a l i)
