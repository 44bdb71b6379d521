-- Terms of any type A that has a test for equal terms and one for IRIs, and lists of them. Term numbers are such a type too.
use Rattle.std.specs.Prelude.{◌≡◌, Bool, true, false, ◌||◌, ◌⊎◌, List, [], ◌∷◌, ◌++◌}

pub record Terms (A : Type 0) : Type 0 where
  pub same : A → A → Bool
  pub is_iri : A → Bool

-- the test holds of equal terms and of no others
pub record Exact {A : Type 0} (T : Terms A) : Type 0 where
  pub tells : (a b : A) → T.same a b ≡ true → a ≡ b
  pub told : (a : A) → T.same a a ≡ true

abbrev pub In : {B : Type 0} → B → List B → Type 0
In x [] = ⊥
In x (y ∷ ys) = (x ≡ y) ⊎ In x ys

-- what a function makes of each member, one after the other
abbrev pub gather : {B C : Type 0} → (B → List C) → List B → List C
gather f [] = []
gather f (x ∷ xs) = f x ++ gather f xs

-- some member passes the test
abbrev pub any : {B : Type 0} → (B → Bool) → List B → Bool
any f [] = false
any f (x ∷ xs) = f x || any f xs

module _ {A : Type 0} (T : Terms A) where
  abbrev pub has : A → List A → Bool
  has x [] = false
  has x (y ∷ ys) = T.same x y || has x ys

  -- no term twice
  abbrev pub Distinct : List A → Type 0
  Distinct [] = Unit {0}
  Distinct (x ∷ xs) = (has x xs ≡ false) × Distinct xs
