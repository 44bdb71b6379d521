-- What a search over the first numbers finds, said of the numbers and not of a run of calls.
use Rattle.std.proofs.Common.{◌≡◌, ℕ, ◌+◌, ◌<◌, true, Option, None, Some, unwrap_or, option_map, ap, subst, arith}
use Rattle.std.specs.Prelude.{IfSome, IsSomeAnd, MatchOption}
use Rattle.std.specs.Fn.{Called, Mut}
use Rattle.std.specs.Iterator.Runs.{Run, ItemsCountUp, CallKeepsClosure, AllItemsGive, IsFirstToGive}

-- nothing is found below n, or y at the first number where something is
abbrev pub FirstFound : {B : Type 0} → ℕ → (ℕ → Type 0) → (ℕ → B → Type 0) → Option B → Type 0
FirstFound n No Yes r = MatchOption r ((k : ℕ) → k < n → No k) (λ y. (i : ℕ) × (i < n) × Yes i y × ((k : ℕ) → k < i → No k))

same : (x k : ℕ) → ◌≡◌ {A = Option ℕ} (Some x) (Some (0 + k)) → x ≡ k
same x k e = omega (arith, ap (λ o. unwrap_or o 0) e)

-- what holds of the item at a place holds of its number
here : (P : ℕ → Type 0) (k : ℕ) (o : Option ℕ) → option_map (λ y. y) o ≡ Some (0 + k) → IfSome o P → P k
here P k None e h = cc
here P k (Some x) e h = subst P (same x k e) h

if_some : (P : ℕ → Type 0) (o : Option ℕ) → IsSomeAnd o P → IfSome o P
if_some P None h = absurd h
if_some P (Some x) h = h

module _ {F B : Type 0} (g : Mut F (ℕ × Unit {0}) (Option B)) (f : F) (n : ℕ) (No : ℕ → Type 0) (Yes : ℕ → B → Type 0)
    (miss : (k : ℕ) → Called g f (k, tt) None f → No k) (hit : (k : ℕ) (y : B) → Called g f (k, tt) (Some y) f → Yes k y) where
  -- from what `find_map` says of its run
  pub first_found : {S : Type 0} {steps : S → Option ℕ → S → Type 0} (p : Run steps) (r : Option B) → ItemsCountUp p 0 n → CallKeepsClosure g f
      → MatchOption r ((p.whole ≡ true) × AllItemsGive p g f None) (λ y. (i : ℕ) × (i < p.len) × (p.len ≡ i + 1) × IsFirstToGive p g f (Some y) None i)
      → FirstFound n No Yes r
  first_found p None up keeps w = λ k h. miss k (here (λ x. Called g f (x, tt) None f) k (p.at k) (up.3 k (omega (arith, up.1 w.0))) (w.1 keeps k))
  first_found p (Some y) up keeps w = (
    w.0,
    omega (arith, w.1, up.0),
    hit w.0 y (here (λ x. Called g f (x, tt) (Some y) f) w.0 (p.at w.0) (up.3 w.0 w.1) (if_some _ (p.at w.0) (w.3 keeps).0)),
    λ k h. miss k (here (λ x. Called g f (x, tt) None f) k (p.at k) (up.3 k (omega (arith, h, w.1))) (if_some _ (p.at k) ((w.3 keeps).1 k h))),
  )
