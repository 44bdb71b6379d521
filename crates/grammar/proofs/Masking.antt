-- Masks do what sets do.
use Rattle.std.proofs.Common.{◌≡◌, ℕ, zero, suc, ◌*◌, ◌/◌, ◌%◌, ◌^◌, ◌<◌, min, max, Bool, true, false, ◌&&◌, ◌||◌, eqb, sym, refl, ap, ◌∙◌, mul_comm, pow-suc, div-one, arith, eq-eqb, ne_eqb, eqb-true}
use native.Mathlib.Nat.{zero-div, div-div-eq-div-mul}
use lib.Bits.{bit_and, bit_or, or_shr, and_shr, or_step, and_step}
use Rattle.grammar.specs.Bounded.{both, common, none, just}
use Rattle.grammar.specs.Masks.{member}

clash : false ≡ true → ⊥
clash e = let z : ◌≡◌ {A = ℕ} 0 1 = cc in omega arith

-- ---- one bit

bits_or : (x y : ℕ) → x < 2 → y < 2 → eqb (max x y) 1 ≡ eqb x 1 || eqb y 1
bits_or zero zero h k = refl
bits_or zero (suc zero) h k = refl
bits_or zero (suc (suc y)) h k = absurd (omega arith)
bits_or (suc zero) zero h k = refl
bits_or (suc zero) (suc zero) h k = refl
bits_or (suc zero) (suc (suc y)) h k = absurd (omega arith)
bits_or (suc (suc x)) y h k = absurd (omega arith)

bits_and : (x y : ℕ) → x < 2 → y < 2 → eqb (min x y) 1 ≡ eqb x 1 && eqb y 1
bits_and zero zero h k = refl
bits_and zero (suc zero) h k = refl
bits_and zero (suc (suc y)) h k = absurd (omega arith)
bits_and (suc zero) zero h k = refl
bits_and (suc zero) (suc zero) h k = refl
bits_and (suc zero) (suc (suc y)) h k = absurd (omega arith)
bits_and (suc (suc x)) y h k = absurd (omega arith)

last_or : (a b : ℕ) → bit_or a b % 2 ≡ max (a % 2) (b % 2)
last_or a b = omega (arith, or_step a b)

last_and : (a b : ℕ) → bit_and a b % 2 ≡ min (a % 2) (b % 2)
last_and a b = omega (arith, and_step a b)

pub member_or : (a b v : ℕ) → member (bit_or a b) v ≡ both (member a) (member b) v
member_or a b v =
    ap (λ n. eqb (n % 2) 1) (or_shr a b v) ∙ ap (λ n. eqb n 1) (last_or (a / 2 ^ v) (b / 2 ^ v))
    ∙ bits_or (a / 2 ^ v % 2) (b / 2 ^ v % 2) (omega arith) (omega arith)

pub member_and : (a b v : ℕ) → member (bit_and a b) v ≡ common (member a) (member b) v
member_and a b v =
    ap (λ n. eqb (n % 2) 1) (and_shr a b v) ∙ ap (λ n. eqb n 1) (last_and (a / 2 ^ v) (b / 2 ^ v))
    ∙ bits_and (a / 2 ^ v % 2) (b / 2 ^ v % 2) (omega arith) (omega arith)

-- ---- the bits of a half are those behind the last

pub halved : (m v : ℕ) → m / 2 ^ suc v ≡ m / 2 / 2 ^ v
halved m v = ap (λ n. m / n) (pow-suc 2 v ∙ mul_comm (2 ^ v) 2) ∙ sym (div-div-eq-div-mul m 2 (2 ^ v))

pub whole : (m : ℕ) → m / 2 ^ 0 ≡ m
whole m = div-one m

pub member_none : (v : ℕ) → member 0 v ≡ none v
member_none v = ap (λ n. eqb (n % 2) 1) (zero-div (2 ^ v))

double : (w : ℕ) → 2 ^ suc w ≡ 2 ^ w * 2
double w = pow-suc 2 w

pub member_one : (v w : ℕ) → member (2 ^ w) v ≡ just w v
member_one zero zero = refl
member_one zero (suc w) = ap (λ n. eqb (n % 2) 1) (whole (2 ^ suc w)) ∙ ne_eqb (2 ^ suc w % 2) 1 (λ e. omega (arith, double w)) ∙ sym (ne_eqb 0 (suc w) (λ e. omega (arith, e)))
member_one (suc v) zero = ap (λ n. eqb (n % 2) 1) (halved 1 v ∙ zero-div (2 ^ v)) ∙ sym (ne_eqb (suc v) 0 (λ e. omega (arith, e)))
member_one (suc v) (suc w) =
    let half : 2 ^ suc w / 2 ≡ 2 ^ w = omega (arith, double w) in
    ap (λ n. eqb (n % 2) 1) (halved (2 ^ suc w) v) ∙ ap (λ n. eqb (n / 2 ^ v % 2) 1) half ∙ member_one v w ∙ shifted
  where
    shifted : eqb v w ≡ eqb (suc v) (suc w)
    shifted = go (eqb v w) refl
      where
        go : (b : Bool) → eqb v w ≡ b → eqb v w ≡ eqb (suc v) (suc w)
        go true e = e ∙ sym (eq-eqb (suc v) (suc w) (ap suc (eqb-true v w e)))
        go false e = e ∙ sym (ne_eqb (suc v) (suc w) (λ f. absurd (clash (sym e ∙ eq-eqb v w (omega (arith, f))))))

-- masks of the same members are equal
pub same_members : (k a b : ℕ) → a < 2 ^ k → b < 2 ^ k → ((v : ℕ) → member a v ≡ member b v) → a ≡ b
same_members zero a b h g same = omega arith
same_members (suc k) a b h g same =
    let halves = same_members k (a / 2) (b / 2) (omega (arith, double k)) (omega (arith, double k))
    (λ v. ap (λ n. eqb (n % 2) 1) (sym (halved a v)) ∙ same (suc v) ∙ ap (λ n. eqb (n % 2) 1) (halved b v)) in
    let last : eqb (a % 2) 1 ≡ eqb (b % 2) 1 = ap (λ n. eqb (n % 2) 1) (sym (whole a)) ∙ same 0 ∙ ap (λ n. eqb (n % 2) 1) (whole b) in
    let ends = alike (a % 2) (b % 2) (omega arith) (omega arith) last in
    omega (arith, halves, ends)
  where
    alike : (x y : ℕ) → x < 2 → y < 2 → eqb x 1 ≡ eqb y 1 → x ≡ y
    alike zero zero h g e = refl
    alike zero (suc zero) h g e = absurd (clash e)
    alike zero (suc (suc y)) h g e = absurd (omega arith)
    alike (suc zero) zero h g e = absurd (clash (sym e))
    alike (suc zero) (suc zero) h g e = refl
    alike (suc zero) (suc (suc y)) h g e = absurd (omega arith)
    alike (suc (suc x)) y h g e = absurd (omega arith)
