-- Counting the ones of a mask counts the variables in its set; and what a verdict with nothing fixed says.
use Rattle.std.proofs.Common.{◌≡◌, ℕ, zero, suc, ◌+◌, ◌/◌, ◌%◌, ◌^◌, ◌<◌, Bool, true, false, cond, eqb, sym, refl, ap, ◌∙◌, ap₂, pow-suc, arith, eqb-true}
use borrow.Author.Tests.{eqb-false}
use lib.Count.{ones, ones_step, ones-le}
use Rattle.grammar.specs.Bounded.{Vars, none, sure, Bounded, Asks}
use Rattle.grammar.specs.Judged.{judged, sure_mask}
use Rattle.grammar.specs.Masks.{member}
use Rattle.grammar.proofs.Bounding.{by_same}
use Rattle.grammar.proofs.Judging.{judging_decides, mask_is_sure}
use Rattle.grammar.proofs.Masking.{member_none, halved, whole}
use Rattle.judging.specs.Judging.{how_many}

alike : (X Y : Vars) (n : ℕ) → ((v : ℕ) → X v ≡ Y v) → how_many X n ≡ how_many Y n
alike X Y zero e = refl
alike X Y (suc n) e = ap₂ ◌+◌ (ap (λ b. cond b 1 0) (e 0)) (alike (λ v. X (suc v)) (λ v. Y (suc v)) n (λ v. e (suc v)))

first_bit : (m : ℕ) → m % 2 ≡ cond (member m 0) 1 0
first_bit m = go (eqb (m % 2) 1) refl ∙ ap (λ k. cond (eqb (k % 2) 1) 1 0) (sym (whole m))
  where
    go : (b : Bool) → eqb (m % 2) 1 ≡ b → m % 2 ≡ cond b 1 0
    go true e = eqb-true (m % 2) 1 e
    go false e = lower (m % 2) (omega arith) (eqb-false (m % 2) 1 e)
      where
        lower : (k : ℕ) → k < 2 → (k ≡ 1 → ⊥) → k ≡ 0
        lower zero lt ne = refl
        lower (suc zero) lt ne = absurd (ne refl)
        lower (suc (suc k)) lt ne = absurd (omega arith)

pub ones_count : (k m : ℕ) → m < 2 ^ k → ones m ≡ how_many (member m) k
ones_count zero m lt = omega (arith, ones-le 0 m lt)
ones_count (suc k) m lt =
    ones_step m
    ∙ ap₂ ◌+◌ (first_bit m) (ones_count k (m / 2) (omega (arith, pow-suc 2 k)) ∙ alike (member (m / 2)) (λ v. member m (suc v)) k (λ v. ap (λ n. eqb (n % 2) 1) (sym (halved m v))))

pub sure_count_lem : (p : Asks) (s n : ℕ) → s ≡ sure_mask p → n ≡ how_many (member s) 8 → n ≡ how_many (sure p) 8
sure_count_lem p s n e f = f ∙ alike (member s) (sure p) 8 (λ v. ap (λ m. member m v) e ∙ mask_is_sure p v)

pub judged_bounded : (p : Asks) → judged p 0 ≡ true → Bounded p none
judged_bounded p h = by_same p (member 0) none member_none ((judging_decides p 0).0 h)

pub bounded_judged : (p : Asks) → Bounded p none → judged p 0 ≡ true
bounded_judged p b = (judging_decides p 0).1 (by_same p none (member 0) (λ v. sym (member_none v)) b)
