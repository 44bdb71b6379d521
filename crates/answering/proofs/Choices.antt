-- One try settles which side goes first, whatever the terms are.
use Rattle.std.proofs.Common.{◌≡◌, ℕ, Bool, true, false, ◌&&◌, ◌||◌, sym, refl, ◌∙◌, inl, inr}
use lib.Bits.{bit_or}
use Rattle.std.proofs.lemmas.Bool.{and_parts, and_from, or_left, or_right, or_cases}
use Rattle.grammar.specs.Syntax.{Path, link, negated, inverse, star, sequence, alternative, End, constant, variable, Pattern, empty, line, and, union, opt}
use Rattle.grammar.specs.Bounded.{fixed}
use Rattle.grammar.specs.Masks.{member}
use Rattle.grammar.specs.Walkable.{walkable}
use Rattle.grammar.specs.Judged.{sure_mask, judged}
use Rattle.grammar.proofs.Masking.{member_or}

and_more : (a b c d : Bool) → (a ≡ true → c ≡ true) → (b ≡ true → d ≡ true) → a && b ≡ true → c && d ≡ true
and_more a b c d f g h = let p = and_parts a b h in and_from c d (f p.0) (g p.1)

or_more : (a b c d : Bool) → (a ≡ true → c ≡ true) → (b ≡ true → d ≡ true) → a || b ≡ true → c || d ≡ true
or_more a b c d f g h = elim (or_cases a b h) [ inl i ↦ or_left c d (f i) | inr i ↦ or_right c d (g i) ]

-- ends that are fixed besides do no harm
walkable_more : {A : Type 0} (p : Path A) (l r l' r' : Bool) → (l ≡ true → l' ≡ true) → (r ≡ true → r' ≡ true) → walkable p l r ≡ true → walkable p l' r' ≡ true
walkable_more (link u) l r l' r' f g h = f h
walkable_more (negated us) l r l' r' f g h = f h
walkable_more (inverse p) l r l' r' f g h = walkable_more p r l r' l' g f h
walkable_more (star p) l r l' r' f g h = or_more (l && walkable p true false) (r && walkable p false true) _ _ (and_more l _ l' _ f (λ i. i)) (and_more r _ r' _ g (λ i. i)) h
walkable_more (sequence p q) l r l' r' f g h =
    or_more (walkable p l false && walkable q true r) (walkable q false r && walkable p l true) _ _
    (and_more (walkable p l false) _ _ _ (walkable_more p l false l' false f (λ i. i)) (walkable_more q true r true r' (λ i. i) g))
    (and_more (walkable q false r) _ _ _ (walkable_more q false r false r' (λ i. i) g) (walkable_more p l true l' true f (λ i. i))) h
walkable_more (alternative p q) l r l' r' f g h = and_more (walkable p l r) _ _ _ (walkable_more p l r l' r' f g) (walkable_more q l r l' r' f g) h

pub second_step : {A : Type 0} (p q : Path A) (l r : Bool) → walkable (sequence p q) l r ≡ true → walkable p l false ≡ true → walkable q true r ≡ true
second_step p q l r h e =
    elim (or_cases (walkable p l false && walkable q true r) (walkable q false r && walkable p l true) h) [
      | inl i ↦ (and_parts (walkable p l false) (walkable q true r) i).1
      | inr i ↦ walkable_more q false r true r (λ j. refl) (λ j. j) (and_parts (walkable q false r) (walkable p l true) i).0
    ]

abbrev Wider : ℕ → ℕ → Type 0
Wider m n = (v : ℕ) → member m v ≡ true → member n v ≡ true

fixed_more : {A : Type 0} (m n : ℕ) → Wider m n → (e : End A ℕ) → fixed (member m) e ≡ true → fixed (member n) e ≡ true
fixed_more m n h (constant t) i = i
fixed_more m n h (variable v) i = h v i

wider_or : (m n k : ℕ) → Wider m n → Wider (bit_or m k) (bit_or n k)
wider_or m n k h v e =
    member_or n k v ∙ or_more (member m v) (member k v) (member n v) (member k v) (h v) (λ i. i) (sym (member_or m k v) ∙ e)

-- variables that are fixed besides do no harm
judged_more : {A : Type 0} (p : Pattern A ℕ) (m n : ℕ) → Wider m n → judged p m ≡ true → judged p n ≡ true
judged_more empty m n h e = e
judged_more (line a p b) m n h e = walkable_more p (fixed (member m) a) (fixed (member m) b) _ _ (fixed_more m n h a) (fixed_more m n h b) e
judged_more (and p q) m n h e =
    or_more (judged p m && judged q (bit_or m (sure_mask p))) (judged q m && judged p (bit_or m (sure_mask q))) _ _
    (and_more (judged p m) _ _ _ (judged_more p m n h) (judged_more q (bit_or m (sure_mask p)) (bit_or n (sure_mask p)) (wider_or m n (sure_mask p) h)))
    (and_more (judged q m) _ _ _ (judged_more q m n h) (judged_more p (bit_or m (sure_mask q)) (bit_or n (sure_mask q)) (wider_or m n (sure_mask q) h))) e
judged_more (union p q) m n h e =
    and_more (judged p m && judged q m) _ _ _ (and_more (judged p m) (judged q m) _ _ (judged_more p m n h) (judged_more q m n h)) (λ i. i) e
judged_more (opt p q) m n h e = and_more (judged p m) (judged q (sure_mask p)) _ _ (judged_more p m n h) (λ i. i) e

pub second_side : {A : Type 0} (p q : Pattern A ℕ) (m : ℕ) → judged (and p q) m ≡ true → judged p m ≡ true → judged q (bit_or m (sure_mask p)) ≡ true
second_side p q m h e =
    elim (or_cases (judged p m && judged q (bit_or m (sure_mask p))) (judged q m && judged p (bit_or m (sure_mask q))) h) [
      | inl i ↦ (and_parts (judged p m) (judged q (bit_or m (sure_mask p))) i).1
      | inr i ↦ judged_more q m (bit_or m (sure_mask p)) (λ v j. member_or m (sure_mask p) v ∙ or_left (member m v) (member (sure_mask p) v) j)
          (and_parts (judged q m) (judged p (bit_or m (sure_mask q))) i).0
    ]
