-- Where a walk begins: one try settles it.
use Rattle.std.proofs.Common.{◌≡◌, ℕ, Bool, true, false, ◌&&◌, ◌||◌, refl, ◌∙◌, inl, inr, arith}
use lib.Bits.{bit_or}
use Rattle.terms.specs.Terms.{Term}
use Rattle.grammar.specs.Syntax.{Path, link, negated, inverse, star, sequence, alternative}
use Rattle.grammar.specs.Bounded.{Asks}
use Rattle.grammar.specs.Masks.{member}
use Rattle.grammar.specs.Walkable.{walkable, FirstPartDecides}
use Rattle.grammar.specs.Judged.{judged, sure_mask, FirstSideDecides}
use Rattle.grammar.proofs.Bounding.{bounded_by_more}
use Rattle.grammar.proofs.Judging.{judging_decides}
use Rattle.grammar.proofs.Masking.{member_or}
use Rattle.grammar.proofs.Walking.{and_true, true_and, or_true, true_or}

clash : false ≡ true → ⊥
clash e = let z : ◌≡◌ {A = ℕ} 0 1 = cc in omega arith

tried : (a b c d : Bool) → a ≡ true → (c ≡ true → b ≡ true) → (a && b) || (c && d) ≡ b
tried false b c d e f = absurd (clash e)
tried true true c d e f = refl
tried true false false d e f = refl
tried true false true d e f = absurd (clash (f refl))

and_more : (a b c d : Bool) → (a ≡ true → c ≡ true) → (b ≡ true → d ≡ true) → a && b ≡ true → c && d ≡ true
and_more a b c d f g h = true_and c d (f (and_true a b h).0) (g (and_true a b h).1)

or_more : (a b c d : Bool) → (a ≡ true → c ≡ true) → (b ≡ true → d ≡ true) → a || b ≡ true → c || d ≡ true
or_more a b c d f g h = true_or c d (elim (or_true a b h) [ inl x ↦ inl (f x) | inr y ↦ inr (g y) ])

-- ends that are fixed besides do no harm
pub walkable_more : (p : Path Term) (l r l' r' : Bool) → (l ≡ true → l' ≡ true) → (r ≡ true → r' ≡ true) → walkable p l r ≡ true → walkable p l' r' ≡ true
walkable_more (link u) l r l' r' f g h = f h
walkable_more (negated us) l r l' r' f g h = f h
walkable_more (inverse p) l r l' r' f g h = walkable_more p r l r' l' g f h
walkable_more (star p) l r l' r' f g h = or_more (l && walkable p true false) (r && walkable p false true) _ _ (and_more l _ l' _ f (λ x. x)) (and_more r _ r' _ g (λ x. x)) h
walkable_more (sequence p q) l r l' r' f g h =
    or_more (walkable p l false && walkable q true r) (walkable q false r && walkable p l true) _ _
    (and_more (walkable p l false) _ _ _ (walkable_more p l false l' false f (λ x. x)) (walkable_more q true r true r' (λ x. x) g))
    (and_more (walkable q false r) _ _ _ (walkable_more q false r false r' (λ x. x) g) (walkable_more p l true l' true f (λ x. x))) h
walkable_more (alternative p q) l r l' r' f g h = and_more (walkable p l r) _ _ _ (walkable_more p l r l' r' f g) (walkable_more q l r l' r' f g) h

pub first_part_decides : FirstPartDecides
first_part_decides p q l r h = tried (walkable p l false) (walkable q true r) (walkable q false r) (walkable p l true) h (walkable_more q false r true r (λ e. refl) (λ x. x))

-- variables that are fixed besides do no harm
pub judged_more : (p : Asks) (m s : ℕ) → judged p m ≡ true → judged p (bit_or m s) ≡ true
judged_more p m s h = (judging_decides p (bit_or m s)).1 (bounded_by_more p (member m) (member (bit_or m s)) (λ v e. member_or m s v ∙ true_or (member m v) (member s v) (inl e)) ((judging_decides p m).0 h))

pub first_side_decides : FirstSideDecides
first_side_decides p q m h = tried (judged p m) (judged q (bit_or m (sure_mask p))) (judged q m) (judged p (bit_or m (sure_mask q))) h (judged_more q m (sure_mask p))
