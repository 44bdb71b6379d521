-- Judging by masks gives the verdict of the definition.
use Rattle.std.proofs.Common.{◌≡◌, ℕ, zero, suc, ◌+◌, ◌^◌, ◌<◌, ◌≤◌, Bool, true, ◌&&◌, ◌||◌, eqb, ◌⊎◌, sym, refl, ap, ◌∙◌, inl, inr, pow-suc, arith, eq-eqb, eqb-true}
use native.Mathlib.Nat.{pow-zero}
use lib.Bits.{bit_or}
use Rattle.grammar.specs.Syntax.{End, constant, variable, empty, line, and, union, opt}
use Rattle.terms.specs.Terms.{Term}
use Rattle.grammar.specs.Bounded.{both, of_end, sure, Bounded, Asks}
use Rattle.grammar.specs.Masks.{member}
use Rattle.grammar.specs.Judged.{end_mask, sure_mask, judged, MaskIsSure, JudgingDecides}
use Rattle.grammar.proofs.Bounding.{by_same}
use Rattle.grammar.proofs.Masking.{member_or, member_and, member_one, member_none, same_members}
use Rattle.grammar.proofs.Walking.{and_true, true_and, or_true, true_or, ends_decide}

end_mask_lem : (a : End Term ℕ) (v : ℕ) → member (end_mask a) v ≡ of_end a v
end_mask_lem (constant t) v = member_none v
end_mask_lem (variable w) v = member_one v w

pub mask_is_sure : MaskIsSure
mask_is_sure empty v = member_none v
mask_is_sure (line a p b) v = member_or (end_mask a) (end_mask b) v ∙ (λ i. end_mask_lem a v i || end_mask_lem b v i)
mask_is_sure (and p q) v = member_or (sure_mask p) (sure_mask q) v ∙ (λ i. mask_is_sure p v i || mask_is_sure q v i)
mask_is_sure (union p q) v = member_and (sure_mask p) (sure_mask q) v ∙ (λ i. mask_is_sure p v i && mask_is_sure q v i)
mask_is_sure (opt p q) v = mask_is_sure p v

-- what is fixed besides, by masks and by sets
with_sure : (p : Asks) (m v : ℕ) → member (bit_or m (sure_mask p)) v ≡ both (member m) (sure p) v
with_sure p m v = member_or m (sure_mask p) v ∙ ap (λ b. member m v || b) (mask_is_sure p v)

below_power : (n : ℕ) → n < 2 ^ n
below_power zero = omega (arith, pow-zero 2)
below_power (suc n) = omega (arith, below_power n, pow-suc 2 n)

-- masks are equal exactly where their sets are
masks_equal : (a b : ℕ) → ((v : ℕ) → member a v ≡ member b v) → a ≡ b
masks_equal a b h = same_members (a + b) a b (below a (a + b) (omega arith)) (below b (a + b) (omega arith)) h
  where
    below : (n k : ℕ) → n ≤ k → n < 2 ^ k
    below n k h = omega (arith, below_power k)

abbrev Decides : Asks → Type 0
Decides p = (m : ℕ) → (judged p m ≡ true → Bounded p (member m)) × (Bounded p (member m) → judged p m ≡ true)

module _ (p q : Asks) (h : Decides p) (k : Decides q) (m : ℕ) where
  abbrev left : Bool
  left = judged p m && judged q (bit_or m (sure_mask p))

  abbrev right : Bool
  right = judged q m && judged p (bit_or m (sure_mask q))

  and_to : ((judged p m && judged q (bit_or m (sure_mask p))) ≡ true) ⊎ ((judged q m && judged p (bit_or m (sure_mask q))) ≡ true) → Bounded (and p q) (member m)
  and_to (inl e) =
      let x = and_true (judged p m) (judged q (bit_or m (sure_mask p))) e in
      inl ((h m).0 x.0, by_same q (member (bit_or m (sure_mask p))) (both (member m) (sure p)) (with_sure p m) ((k (bit_or m (sure_mask p))).0 x.1))
  and_to (inr e) =
      let x = and_true (judged q m) (judged p (bit_or m (sure_mask q))) e in
      inr ((k m).0 x.0, by_same p (member (bit_or m (sure_mask q))) (both (member m) (sure q)) (with_sure q m) ((h (bit_or m (sure_mask q))).0 x.1))

  and_from : Bounded (and p q) (member m) → judged (and p q) m ≡ true
  and_from (inl e) =
      true_or left right (inl (true_and (judged p m) (judged q (bit_or m (sure_mask p))) ((h m).1 e.0)
      ((k (bit_or m (sure_mask p))).1 (by_same q (both (member m) (sure p)) (member (bit_or m (sure_mask p))) (λ v. sym (with_sure p m v)) e.1))))
  and_from (inr e) =
      true_or left right (inr (true_and (judged q m) (judged p (bit_or m (sure_mask q))) ((k m).1 e.0)
      ((h (bit_or m (sure_mask q))).1 (by_same p (both (member m) (sure q)) (member (bit_or m (sure_mask q))) (λ v. sym (with_sure q m v)) e.1))))

  union_to : judged (union p q) m ≡ true → Bounded (union p q) (member m)
  union_to e =
      let x = and_true (judged p m && judged q m) (eqb (sure_mask p) (sure_mask q)) e in
      let y = and_true (judged p m) (judged q m) x.0 in
      ((h m).0 y.0, (k m).0 y.1, λ v. sym (mask_is_sure p v) ∙ ap (λ n. member n v) (eqb-true (sure_mask p) (sure_mask q) x.1) ∙ mask_is_sure q v)

  union_from : Bounded (union p q) (member m) → judged (union p q) m ≡ true
  union_from e =
      true_and (judged p m && judged q m) (eqb (sure_mask p) (sure_mask q)) (true_and (judged p m) (judged q m) ((h m).1 e.0) ((k m).1 e.1))
      (eq-eqb (sure_mask p) (sure_mask q) (masks_equal (sure_mask p) (sure_mask q) (λ v. mask_is_sure p v ∙ e.2 v ∙ sym (mask_is_sure q v))))

  opt_to : judged (opt p q) m ≡ true → Bounded (opt p q) (member m)
  opt_to e = let x = and_true (judged p m) (judged q (sure_mask p)) e in ((h m).0 x.0, by_same q (member (sure_mask p)) (sure p) (mask_is_sure p) ((k (sure_mask p)).0 x.1))

  opt_from : Bounded (opt p q) (member m) → judged (opt p q) m ≡ true
  opt_from e = true_and (judged p m) (judged q (sure_mask p)) ((h m).1 e.0) ((k (sure_mask p)).1 (by_same q (sure p) (member (sure_mask p)) (λ v. sym (mask_is_sure p v)) e.1))

pub judging_decides : JudgingDecides
judging_decides empty m = ((λ e. tt), λ e. refl)
judging_decides (line a p b) m = let d = ends_decide p (member m) a b in (d.1, d.0)
judging_decides (and p q) m =
    ((λ e. and_to p q (judging_decides p) (judging_decides q) m (or_true (judged p m && judged q (bit_or m (sure_mask p))) (judged q m && judged p (bit_or m (sure_mask q))) e)), and_from p q (judging_decides p) (judging_decides q) m)
judging_decides (union p q) m = (union_to p q (judging_decides p) (judging_decides q) m, union_from p q (judging_decides p) (judging_decides q) m)
judging_decides (opt p q) m = (opt_to p q (judging_decides p) (judging_decides q) m, opt_from p q (judging_decides p) (judging_decides q) m)
