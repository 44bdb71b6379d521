-- The pairs of a path between ends that may be fixed: their rows, and their weights summed up.
use Rattle.std.proofs.Common.{◌≡◌, Bool, true, false, List, Some, None, Option, sym, refl, ap, ◌∙◌, ap₂}
use mathlib.Core.Path.{fun_ext}
use Rattle.weights.specs.Scales.{Scale, Fair}
use Rattle.grammar.specs.Syntax.{Path, inverse, sequence, alternative}
use Rattle.semantics.specs.Terms.{Terms, Exact, has, Distinct}
use Rattle.semantics.specs.Rows.{Row}
use Rattle.semantics.specs.Bags.{total, only}
use Rattle.semantics.specs.Graphs.{Graph, pair, weigh}
use Rattle.semantics.proofs.Lists.{in_has}
use Rattle.semantics.proofs.Totals.{total_sum, total_product, product_total, total_only, total_exchange, total_local, product_only, total_pick}
use Rattle.walks.specs.Plans.{allows}
use Rattle.solving.specs.Solved.{pair_row, left_of, right_of}

abbrev pub both : {A : Type 0} → A → A → Row A
both a b = pair_row (Some a) (Some b)

module _ {A : Type 0} (T : Terms A) (G : Graph A) where
  abbrev pub PathRow : Path A → Option A → Option A → Row A → Type 0
  PathRow p x y c = (a : A) × (b : A) × (allows T x a ≡ true) × (allows T y b ≡ true) × (pair T G p a b ≡ true) × (c ≡ both a b)

  abbrev pub path_sum : {K : Type 0} → Scale K → Path A → Option A → Option A → (Row A → K) → K
  path_sum s p x y g =
      total s (λ a. only s (allows T x a) (total s (λ b. only s (allows T y b) (s.product (weigh T G s p a b) (g (both a b)))) G.universe)) G.universe

module _ {K : Type 0} {s : Scale K} (f : Fair s) where
  only_cross : (b c : Bool) (u : K) → only s b (only s c u) ≡ only s c (only s b u)
  only_cross true c u = refl
  only_cross false true u = refl
  only_cross false false u = refl

  pub only_sum : (b : Bool) (u v : K) → only s b (s.sum u v) ≡ s.sum (only s b u) (only s b v)
  only_sum true u v = refl
  only_sum false u v = sym (f.sum_zero _)

  module _ {B C : Type 0} where
    -- sums under tests may be exchanged
    pub cross_sum : (α : B → Bool) (β : C → Bool) (F : B → C → K) (U : List B) (V : List C)
        → total s (λ b. only s (β b) (total s (λ a. only s (α a) (F a b)) U)) V ≡ total s (λ a. only s (α a) (total s (λ b. only s (β b) (F a b)) V)) U
    cross_sum α β F U V =
        ap (λ h. total s h V) (fun_ext (λ b. total_only f (β b) (λ a. only s (α a) (F a b)) U
        ∙ ap (λ h. total s h U) (fun_ext (λ a. only_cross (β b) (α a) (F a b)))))
        ∙ total_exchange f (λ b a. only s (α a) (only s (β b) (F a b))) V U
        ∙ ap (λ h. total s h U) (fun_ext (λ a. sym (total_only f (α a) (λ b. only s (β b) (F a b)) V)))

module _ {A : Type 0} {T : Terms A} (x : Exact T) (G : Graph A) (d : Distinct T G.universe) {K : Type 0} {s : Scale K} (f : Fair s) where
  abbrev U : List A
  U = G.universe

  abbrev w : Path A → A → A → K
  w p a b = weigh T G s p a b

  -- with a term at an end, the sum over that end is what stands there
  pub sum_left : (p : Path A) (m : A) (y : Option A) (g : Row A → K) → has T m U ≡ true
      → path_sum T G s p (Some m) y g ≡ total s (λ b. only s (allows T y b) (s.product (w p m b) (g (both m b)))) U
  sum_left p m y g h =
      total_pick f x m (λ a. total s (λ b. only s (allows T y b) (s.product (w p a b) (g (both a b)))) U) U d
      ∙ ap (λ t. only s t (total s (λ b. only s (allows T y b) (s.product (w p m b) (g (both m b)))) U)) h

  pub sum_right : (p : Path A) (o : Option A) (m : A) (g : Row A → K) → has T m U ≡ true
      → path_sum T G s p o (Some m) g ≡ total s (λ a. only s (allows T o a) (s.product (w p a m) (g (both a m)))) U
  sum_right p o m g h = ap (λ k. total s k U) (fun_ext (λ a. ap (only s (allows T o a))
      (total_pick f x m (λ b. s.product (w p a b) (g (both a b))) U d ∙ ap (λ t. only s t (s.product (w p a m) (g (both a m)))) h)))

  pub sum_inverse : (p : Path A) (o u : Option A) (g : Row A → K)
      → path_sum T G s p u o (λ r. g (pair_row (right_of r) (left_of r))) ≡ path_sum T G s (inverse p) o u g
  sum_inverse p o u g = cross_sum f (allows T o) (allows T u) (λ a b. s.product (w p b a) (g (both a b))) U U

  pub sum_alternative : (p q : Path A) (o u : Option A) (g : Row A → K)
      → s.sum (path_sum T G s p o u g) (path_sum T G s q o u g) ≡ path_sum T G s (alternative p q) o u g
  sum_alternative p q o u g =
      sym (total_sum f _ _ U)
      ∙ ap (λ k. total s k U) (fun_ext (λ a.
      sym (only_sum f (allows T o a) _ _)
      ∙ ap (only s (allows T o a)) (sym (total_sum f _ _ U) ∙ ap (λ k. total s k U) (fun_ext (λ b.
      sym (only_sum f (allows T u b) _ _)
      ∙ ap (only s (allows T u b)) (sym (f.product_order _ _ ∙ f.distributes (g (both a b)) (w p a b) (w q a b) ∙ ap₂ s.sum (f.product_order _ _) (f.product_order _ _))))))))

  -- for two ends, what the middle adds up
  abbrev inner : Path A → Path A → A → A → K → K
  inner p q a b v = s.product (w (sequence p q) a b) v

  inner_sum : (p q : Path A) (a b : A) (v : K) → total s (λ m. s.product (w p a m) (s.product (w q m b) v)) U ≡ inner p q a b v
  inner_sum p q a b v =
      ap (λ k. total s k U) (fun_ext (λ m. sym (f.product_grouping (w p a m) (w q m b) v)))
      ∙ product_total f v (λ m. s.product (w p a m) (w q m b)) U

  pub sum_sequence_left : (p q : Path A) (o u : Option A) (g : Row A → K)
      → path_sum T G s p o None (λ r. path_sum T G s q (right_of r) u (λ t. g (pair_row (left_of r) (right_of t)))) ≡ path_sum T G s (sequence p q) o u g
  sum_sequence_left p q o u g = ap (λ k. total s k U) (fun_ext (λ a. ap (only s (allows T o a)) (
      total_local f _ _ U (λ m i. ap (s.product (w p a m)) (sum_left q m u (λ t. g (pair_row (Some a) (right_of t))) (in_has x m U i))
      ∙ sym (total_product f (w p a m) _ U)
      ∙ ap (λ k. total s k U) (fun_ext (λ b. product_only f (allows T u b) (w p a m) (s.product (w q m b) (g (both a b))))))
      ∙ total_exchange f (λ m b. only s (allows T u b) (s.product (w p a m) (s.product (w q m b) (g (both a b))))) U U
      ∙ ap (λ k. total s k U) (fun_ext (λ b.
      sym (total_only f (allows T u b) (λ m. s.product (w p a m) (s.product (w q m b) (g (both a b)))) U)
      ∙ ap (only s (allows T u b)) (inner_sum p q a b (g (both a b))))))))

  swap_product : (u v w : K) → s.product u (s.product v w) ≡ s.product v (s.product u w)
  swap_product u v w = sym (f.product_grouping u v w) ∙ ap (λ z. s.product z w) (f.product_order u v) ∙ f.product_grouping v u w

  pub sum_sequence_right : (p q : Path A) (o u : Option A) (g : Row A → K)
      → path_sum T G s q None u (λ r. path_sum T G s p o (left_of r) (λ t. g (pair_row (left_of t) (right_of r)))) ≡ path_sum T G s (sequence p q) o u g
  sum_sequence_right p q o u g =
      total_local f _ _ U (λ m i. ap (λ k. total s k U) (fun_ext (λ b. ap (only s (allows T u b)) (
      ap (s.product (w q m b)) (sum_right p o m (λ t. g (pair_row (left_of t) (Some b))) (in_has x m U i))
      ∙ sym (total_product f (w q m b) _ U)
      ∙ ap (λ k. total s k U) (fun_ext (λ a. product_only f (allows T o a) (w q m b) (s.product (w p a m) (g (both a b)))
      ∙ ap (only s (allows T o a)) (swap_product (w q m b) (w p a m) (g (both a b)))))))))
      ∙ ap (λ k. total s k U) (fun_ext (λ m. cross_sum f (allows T o) (allows T u) (λ a b. s.product (w p a m) (s.product (w q m b) (g (both a b)))) U U))
      ∙ total_exchange f (λ m a. only s (allows T o a) (total s (λ b. only s (allows T u b) (s.product (w p a m) (s.product (w q m b) (g (both a b))))) U)) U U
      ∙ ap (λ k. total s k U) (fun_ext (λ a.
      sym (total_only f (allows T o a) (λ m. total s (λ b. only s (allows T u b) (s.product (w p a m) (s.product (w q m b) (g (both a b))))) U) U)
      ∙ ap (only s (allows T o a)) (
      total_exchange f (λ m b. only s (allows T u b) (s.product (w p a m) (s.product (w q m b) (g (both a b))))) U U
      ∙ ap (λ k. total s k U) (fun_ext (λ b.
      sym (total_only f (allows T u b) (λ m. s.product (w p a m) (s.product (w q m b) (g (both a b)))) U)
      ∙ ap (only s (allows T u b)) (inner_sum p q a b (g (both a b))))))))
