-- How counts of nodes add up, where the arenas did not fill up and where they did.
use Rattle.std.proofs.Common.{◌≡◌, ℕ, ◌+◌, ◌<◌, ◌≤◌, Bool, true, false, sym, refl, ◌∙◌, arith}
use Rattle.question.specs.Views.{View, Counted, Idle}

pub clash : true ≡ false → ⊥
clash e = let z : ◌≡◌ {A = ℕ} 0 1 = cc in omega arith

pub counted_idle : {p q : View} → Idle p q → (n : ℕ) → Counted p q n n
counted_idle i n = record { short = λ f. omega (arith, i.count); long = λ f g. absurd (clash (sym g ∙ i.full ∙ f)) }

-- some were counted, and then more
pub counted_then : {p q r : View} {l m n : ℕ} → Counted p q l m → Counted q r m n → (r.full ≡ false → q.full ≡ false) → m ≤ n → Counted p r l n
counted_then {p} {q} {r} {l} {m} {n} x y free h = record {
  short = λ f. omega (arith, x.short (free f), y.short f);
  long = λ f g. go f g q.full refl;
}
  where
    go : p.full ≡ false → r.full ≡ true → (v : Bool) → q.full ≡ v → 64 + l < p.count + n
    go f g true e = omega (arith, x.long f e)
    go f g false e = omega (arith, x.short e, y.long e g)

-- the same beside others
pub counted_beside : {p q : View} {m n : ℕ} (l : ℕ) → Counted p q m n → Counted p q (l + m) (l + n)
counted_beside l x = record { short = λ f. omega (arith, x.short f); long = λ f g. omega (arith, x.long f g) }

pub counted_as : {p q : View} {m n o u : ℕ} → m ≡ o → n ≡ u → Counted p q m n → Counted p q o u
counted_as e f x = record { short = λ h. omega (arith, x.short h); long = λ h g. omega (arith, x.long h g) }

-- one part after another
pub counted_both : {p q r : View} {m n : ℕ} → Counted p q 0 m → Counted q r 0 n → (r.full ≡ false → q.full ≡ false) → Counted p r 0 (m + n)
counted_both {p} {q} {r} {m} {n} x y free = counted_then x (counted_as (omega arith) refl (counted_beside m y)) free (omega arith)
