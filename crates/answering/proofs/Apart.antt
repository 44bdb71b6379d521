-- What lists without repeats add up to.
use Rattle.std.proofs.Common.{◌≡◌, List, [], ◌∷◌, sym, refl, ap, ◌∙◌, subst, inl, inr}
use Rattle.weights.specs.Scales.{Scale, Fair}
use Rattle.semantics.specs.Terms.{In}
use Rattle.semantics.specs.Bags.{total}
use Rattle.walks.specs.Crowds.{Apart}
use Rattle.walks.proofs.Crowding.{removed, in_removed, removed_in, removed_apart, removed_gone, Part}

module _ {K : Type 0} {s : Scale K} (f : Fair s) where
  total_removed : {B : Type 0} (g : B → K) (l : List B) (x : B) (i : In x l) → total s g l ≡ s.sum (g x) (total s g (removed l x i))
  total_removed g [] x i = elim i [ ]
  total_removed g (y ∷ l) x (inl i) = ap (λ z. s.sum (g z) (total s g l)) (sym i)
  total_removed g (y ∷ l) x (inr i) =
      ap (s.sum (g y)) (total_removed g l x i)
      ∙ sym (f.sum_grouping (g y) (g x) _) ∙ ap (λ u. s.sum u (total s g (removed l x i))) (f.sum_order (g y) (g x)) ∙ f.sum_grouping (g x) (g y) _

  -- two lists without repeats and with the same members add up to the same
  pub total_members : {B : Type 0} (g : B → K) (l m : List B) → Apart l → Apart m → Part l m → Part m l → total s g l ≡ total s g m
  total_members g [] [] a b h i = refl
  total_members g [] (y ∷ m) a b h i = elim (i y (inl refl)) [ ]
  total_members g (x ∷ l) m a b h i =
      let j = h x (inl refl) in
      ap (s.sum (g x)) (total_members g l (removed m x j) a.1 (removed_apart m x j b)
      (λ z k. in_removed m x j z (h z (inr k)) (λ e. a.0 (subst (λ y. In y l) e k)))
      (λ z k. other z (i z (removed_in m x j z k)) (λ e. removed_gone m x j b (subst (λ y. In y (removed m x j)) e k))))
      ∙ sym (total_removed g m x j)
    where
      other : (z : _) → In z (x ∷ l) → (z ≡ x → ⊥) → In z l
      other z (inl e) n = absurd (n e)
      other z (inr e) n = e
