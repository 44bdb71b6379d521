-- What stands behind a text at the front of a line.
use Rattle.std.proofs.Common.{◌≡◌, ℕ, ◌+◌, ◌-◌, ◌<◌, ◌≤◌, Bool, true, false, cond, eqb, List, [], ◌∷◌, length, get_or, take, drop, Some, None, Option, sym, refl, ap, ◌∙◌, arith, eq-eqb}
use Rattle.std.proofs.lemmas.List.{drop_more, drop_all, take_rest}
use Rattle.lines.specs.Readings.{behind, and_then}

pub then_some : {A B : Type 0} {o : Option A} (f : A → Option B) (x : A) → o ≡ Some x → and_then o f ≡ f x
then_some f x e = ap (λ o. and_then o f) e

pub then_none : {A B : Type 0} {o : Option A} (f : A → Option B) → o ≡ None → and_then o f ≡ None
then_none f e = ap (λ o. and_then o f) e

pub behind_sign : (b : ℕ) (bs : List ℕ) → 1 ≤ length bs → get_or bs 0 0 ≡ b → behind (b ∷ []) bs ≡ Some (take (length bs - 1) (drop 1 bs))
behind_sign b [] h e = absurd (omega arith)
behind_sign b (d ∷ bs) h e = ap (λ t. cond t (Some bs) None) (eq-eqb d b e) ∙ sym (ap Some (take_rest (d ∷ bs) 1))

-- a text goes on behind its first byte
behind_one : (b : ℕ) (text bs : List ℕ) → behind (b ∷ text) bs ≡ and_then (behind (b ∷ []) bs) (behind text)
behind_one b text [] = refl
behind_one b text (d ∷ bs) = go (eqb d b)
  where
    go : (t : Bool) → cond t (behind text bs) None ≡ and_then (cond t (Some bs) None) (behind text)
    go true = refl
    go false = refl

pub behind_more : (text : List ℕ) (i : ℕ) (bs : List ℕ) → i < length text → behind (drop i text) bs ≡ and_then (behind (get_or text i 0 ∷ []) bs) (behind (drop (i + 1) text))
behind_more text i bs h = ap (λ t. behind t bs) (drop_more text i 0 h) ∙ behind_one (get_or text i 0) (drop (i + 1) text) bs

pub behind_all : (text : List ℕ) (i : ℕ) (bs : List ℕ) → length text ≤ i → behind (drop i text) bs ≡ Some bs
behind_all text i bs h = ap (λ t. behind t bs) (drop_all i text h)
