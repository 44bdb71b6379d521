-- Bags whose rows are changed one by one.
use Rattle.std.proofs.Common.{◌≡◌, suc, List, [], ◌∷◌, length, sym, refl, ap, ◌∙◌, subst, ap₂, inl, inr}
use Rattle.weights.specs.Scales.{Scale, Fair}
use Rattle.semantics.specs.Terms.{Terms, In}
use Rattle.semantics.specs.Rows.{Row, merge}
use Rattle.semantics.specs.Bags.{Bag}
use Rattle.semantics.proofs.Integrals.{integral}
use Rattle.walks.specs.Crowds.{Apart}
use Rattle.solving.specs.Solved.{pair_row, left_of, right_of, turned, onward, backward, merged}
use Rattle.answering.specs.Promises.{rows_in}
use Rattle.answering.proofs.Tables.{Tidy}
use Rattle.answering.proofs.Holding.{Holds}
use Rattle.answering.proofs.Folds.{Made}

module _ {A : Type 0} {K : Type 0} (s : Scale K) where
  abbrev pub imaged : (Row A → Row A) → K → Bag A K → Bag A K
  imaged h u [] = []
  imaged h u (d ∷ L) = (h d.0, s.product u d.1) ∷ imaged h u L

  pub in_imaged : (h : Row A → Row A) (u : K) (L : Bag A K) (c : Row A) → In c (rows_in (imaged h u L)) → (b : Row A) × In b (rows_in L) × (c ≡ h b)
  in_imaged h u [] c i = elim i [ ]
  in_imaged h u (d ∷ L) c (inl i) = (d.0, inl refl, i)
  in_imaged h u (d ∷ L) c (inr i) = let r = in_imaged h u L c i in (r.0, inr r.1, r.2)

  pub imaged_in : (h : Row A → Row A) (u : K) (L : Bag A K) (b c : Row A) → In b (rows_in L) → c ≡ h b → In c (rows_in (imaged h u L))
  imaged_in h u [] b c i e = elim i [ ]
  imaged_in h u (d ∷ L) b c (inl i) e = inl (e ∙ ap h i)
  imaged_in h u (d ∷ L) b c (inr i) e = inr (imaged_in h u L b c i e)

  module _ (T : Terms A) (context : A → List (A × A)) where
    pub merged_imaged : (e : Row A × K) (L : Bag A K) → merged T s e L ≡ imaged (merge e.0) e.1 L
    merged_imaged e [] = refl
    merged_imaged e (d ∷ L) = ap (◌∷◌ (merge e.0 d.0, s.product e.1 d.1)) (merged_imaged e L)

    pub onward_imaged : (e : Row A × K) (L : Bag A K) → onward T s e L ≡ imaged (λ b. pair_row (left_of e.0) (right_of b)) e.1 L
    onward_imaged e [] = refl
    onward_imaged e (d ∷ L) = ap (◌∷◌ (pair_row (left_of e.0) (right_of d.0), s.product e.1 d.1)) (onward_imaged e L)

    pub backward_imaged : (e : Row A × K) (L : Bag A K) → backward T s e L ≡ imaged (λ b. pair_row (left_of b) (right_of e.0)) e.1 L
    backward_imaged e [] = refl
    backward_imaged e (d ∷ L) = ap (◌∷◌ (pair_row (left_of d.0) (right_of e.0), s.product e.1 d.1)) (backward_imaged e L)

  module _ (f : Fair s) where
    pub integral_imaged : (g : Row A → K) (h : Row A → Row A) (u : K) (L : Bag A K) → integral s g (imaged h u L) ≡ s.product u (integral s (λ b. g (h b)) L)
    integral_imaged g h u [] = sym (f.product_zero u)
    integral_imaged g h u (d ∷ L) = ap₂ s.sum (f.product_grouping _ _ _) (integral_imaged g h u L) ∙ sym (f.distributes u _ _)

    pub imaged_made : (h : Row A → Row A) (u : K) (C : Bag A K) (sum : (Row A → K) → K) (row : Row A → Type 0) → Holds s sum row C
        → ((b : Row A) → In b (rows_in C) → Tidy (h b)) → Made s u (λ g. sum (λ b. g (h b))) (λ c. (b : Row A) × row b × (c ≡ h b)) (imaged h u C)
    imaged_made h u C sum row k t = record {
      neat = λ a i. (let r = in_imaged h u C a i in subst Tidy (sym r.2) (t r.0 r.1));
      sums = λ g. integral_imaged g h u C ∙ ap (s.product u) (k.balanced (λ b. g (h b)));
      sound = λ a i. (let r = in_imaged h u C a i in (r.0, k.sound r.0 r.1, r.2));
      complete = λ a i. imaged_in h u C i.0 a (k.complete i.0 i.1) i.2;
    }

-- ---- turned pairs

abbrev pub flip : {A : Type 0} → Row A → Row A
flip r = pair_row (right_of r) (left_of r)

module _ {A : Type 0} {K : Type 0} (s : Scale K) (T : Terms A) (context : A → List (A × A)) where
  pub integral_turned : (g : Row A → K) (L : Bag A K) → integral s g (turned T s L) ≡ integral s (λ r. g (flip r)) L
  integral_turned g [] = refl
  integral_turned g (e ∷ L) = ap (s.sum _) (integral_turned g L)

  pub turned_length : (L : Bag A K) → length (turned T s L) ≡ length L
  turned_length [] = refl
  turned_length (e ∷ L) = ap suc (turned_length L)

  pub in_turned : (L : Bag A K) (c : Row A) → In c (rows_in (turned T s L)) → (b : Row A) × In b (rows_in L) × (c ≡ flip b)
  in_turned [] c i = elim i [ ]
  in_turned (d ∷ L) c (inl i) = (d.0, inl refl, i)
  in_turned (d ∷ L) c (inr i) = let r = in_turned L c i in (r.0, inr r.1, r.2)

  pub turned_in : (L : Bag A K) (b c : Row A) → In b (rows_in L) → c ≡ flip b → In c (rows_in (turned T s L))
  turned_in [] b c i e = elim i [ ]
  turned_in (d ∷ L) b c (inl i) e = inl (e ∙ ap flip i)
  turned_in (d ∷ L) b c (inr i) e = inr (turned_in L b c i e)

  pub turned_once : (L : Bag A K) → ((b c : Row A) → In b (rows_in L) → In c (rows_in L) → flip b ≡ flip c → b ≡ c) → Apart (rows_in L) → Apart (rows_in (turned T s L))
  turned_once [] j o = tt
  turned_once (e ∷ L) j o = (
    (λ i. let r = in_turned L (flip e.0) i in
        o.0 (subst (λ z. In z (rows_in L)) (sym (j e.0 r.0 (inl refl) (inr r.1) r.2)) r.1)),
    turned_once L (λ b c k l. j b c (inr k) (inr l)) o.1,
  )
