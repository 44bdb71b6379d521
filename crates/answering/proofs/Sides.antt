-- The sides of AND and OPT: what they make together, row by row and summed up.
use Rattle.std.proofs.Common.{◌≡◌, Bool, true, false, cond, ◌⊎◌, List, [], ◌∷◌, ◌++◌, sym, refl, ap, ◌∙◌, subst, ap₂, inl, inr}
use mathlib.Core.Path.{fun_ext}
use Rattle.weights.specs.Scales.{Scale, Fair}
use Rattle.semantics.specs.Terms.{Terms, Exact, In}
use Rattle.semantics.specs.Rows.{Row, merge, compatible}
use Rattle.semantics.specs.Bags.{Bag, only, join, alone, bare}
use Rattle.semantics.specs.Meaning.{merges_of, merges}
use Rattle.semantics.proofs.Lists.{clash, in_left, in_right, in_either}
use Rattle.semantics.proofs.RowLaws.{compatible_grouping, compatible_first}
use Rattle.semantics.proofs.Totals.{zero_sum, only_only, only_product, product_only}
use Rattle.semantics.proofs.Integrals.{integral, integral-++, integral_only, integral_sum, integral_join, integral_bare, alone_integral, join_order}
use Rattle.solving.specs.Solved.{merged, fitting, optioned}
use Rattle.answering.specs.Promises.{rows_in}
use Rattle.answering.proofs.Tables.{Tidy, rows_append, tidy_merge}
use Rattle.answering.proofs.Holding.{Holds}
use Rattle.answering.proofs.Folds.{Made}
use Rattle.answering.proofs.Images.{imaged_made, merged_imaged}
use Rattle.answering.proofs.PathSums.{only_sum}

-- ---- merges

module _ {A : Type 0} (T : Terms A) where
  merges_of_in : (a : Row A) (M : List (Row A)) (b c : Row A) → In b M → compatible T a b ≡ true → c ≡ merge a b → In c (merges_of T a M)
  merges_of_in a [] b c i e j = elim i [ ]
  merges_of_in a (d ∷ M) b c (inl i) e j =
      subst (λ t. In c (cond t (merge a d ∷ merges_of T a M) (merges_of T a M))) (sym e ∙ ap (compatible T a) i) (inl (j ∙ ap (merge a) i))
  merges_of_in a (d ∷ M) b c (inr i) e j = further (compatible T a d) (merges_of_in a M b c i e j)
    where
      further : (t : Bool) → In c (merges_of T a M) → In c (cond t (merge a d ∷ merges_of T a M) (merges_of T a M))
      further true h = inr h
      further false h = h

  pub merges_in : (L M : List (Row A)) (a b c : Row A) → In a L → In b M → compatible T a b ≡ true → c ≡ merge a b → In c (merges T L M)
  merges_in [] M a b c i j e h = elim i [ ]
  merges_in (d ∷ L) M a b c (inl i) j e h =
      in_left c (merges_of T d M) (merges T L M) (merges_of_in d M b c j (ap (λ z. compatible T z b) (sym i) ∙ e) (h ∙ ap (λ z. merge z b) i))
  merges_in (d ∷ L) M a b c (inr i) j e h = in_right c (merges_of T d M) (merges T L M) (merges_in L M a b c i j e h)

-- ---- sums

module _ {A : Type 0} {T : Terms A} (x : Exact T) {K : Type 0} {s : Scale K} (f : Fair s) where
  -- the integral over the rows that are compatible with r
  abbrev pub around : Row A → (Row A → K) → Bag A K → K
  around r g L = integral s (λ a. only s (compatible T r a) (g a)) L

  pub around_join : (r : Row A) (g : Row A → K) (L M : Bag A K)
      → around r (λ a. around (merge r a) (λ b. g (merge a b)) M) L ≡ around r g (join T s L M)
  around_join r g L M = sym (
      integral_join x f _ L M
      ∙ ap (λ u. integral s u L) (fun_ext (λ a.
      ap (λ u. integral s u M) (fun_ext (λ b.
      only_only f (compatible T a b) (compatible T r (merge a b)) _
      ∙ ap (λ t. only s t (g (merge a b))) (sym (compatible_grouping x r a b))
      ∙ sym (only_only f (compatible T r a) (compatible T (merge r a) b) _)))
      ∙ sym (integral_only f (compatible T r a) (λ b. only s (compatible T (merge r a) b) (g (merge a b))) M))))

  pub around_turned : (r : Row A) (g : Row A → K) (L M : Bag A K)
      → around r (λ a. around (merge r a) (λ b. g (merge a b)) L) M ≡ around r g (join T s L M)
  around_turned r g L M = around_join r g M L ∙ (join_order x f M L).at _

  insert : (t b c : Bool) (u : K) → (b ≡ true → c ≡ true → t ≡ true) → only s b (only s c u) ≡ only s t (only s b (only s c u))
  insert true b c u h = refl
  insert false true true u h = clash (h refl refl) refl
  insert false true false u h = refl
  insert false false c u h = refl

  around_option : (r : Row A) (g : Row A → K) (L M : Bag A K)
      → around r (λ a. around a (λ b. only s (compatible T r (merge a b)) (g (merge a b))) M) L ≡ around r g (join T s L M)
  around_option r g L M = sym (
      integral_join x f _ L M
      ∙ ap (λ u. integral s u L) (fun_ext (λ a.
      ap (λ u. integral s u M) (fun_ext (λ b. insert (compatible T r a) (compatible T a b) (compatible T r (merge a b)) _ (compatible_first x r a b)))
      ∙ sym (integral_only f (compatible T r a) (λ b. only s (compatible T a b) (only s (compatible T r (merge a b)) (g (merge a b)))) M))))

  crossed : (b c : Bool) (u : K) → only s b (only s c u) ≡ only s c (only s b u)
  crossed true c u = refl
  crossed false true u = refl
  crossed false false u = refl

  twice : (b : Bool) (u : K) → only s b (only s b u) ≡ only s b u
  twice true u = refl
  twice false u = refl

  -- whether a row is alone, by the rows that are compatible with it
  abbrev pub lone : ((Row A → K) → K) → Row A → Bool
  lone sum a = s.is_zero (sum (λ b. only s (compatible T a b) s.one))

  lone_alone : (a : Row A) (M : Bag A K) → lone (λ g. around a g M) a ≡ alone T s a M
  lone_alone a M = ap (λ h. s.is_zero (integral s h M)) (fun_ext (λ b. twice (compatible T a b) s.one)) ∙ sym (alone_integral x f a M)

  around_bare : (r : Row A) (g : Row A → K) (L M : Bag A K) → around r (λ a. only s (lone (λ h. around a h M) a) (g a)) L ≡ around r g (bare T s L M)
  around_bare r g L M = sym (
      integral_bare x f _ L M ∙ ap (λ u. integral s u L) (fun_ext (λ a. crossed (alone T s a M) (compatible T r a) (g a)
      ∙ ap (λ t. only s (compatible T r a) (only s t (g a))) (sym (lone_alone a M)))))

  pub around_opt : (r : Row A) (g : Row A → K) (L M : Bag A K)
      → around r (λ a. s.sum (around a (λ b. only s (compatible T r (merge a b)) (g (merge a b))) M) (only s (lone (λ h. around a h M) a) (g a))) L
      ≡ around r g (join T s L M ++ bare T s L M)
  around_opt r g L M =
      ap (λ u. integral s u L) (fun_ext (λ a. only_sum f (compatible T r a) _ _))
      ∙ integral_sum f _ _ L
      ∙ ap₂ s.sum (around_option r g L M) (around_bare r g L M)
      ∙ sym (integral-++ f _ (join T s L M) (bare T s L M))

  -- ---- what fits

  module _ (context : A → List (A × A)) where
    integral_fitting : (r : Row A) (g : Row A → K) (L : Bag A K) → integral s g (fitting T s r L) ≡ around r g L
    integral_fitting r g [] = refl
    integral_fitting r g (e ∷ L) = go (compatible T r e.0) (integral_fitting r g L)
      where
        go : (t : Bool) → integral s g (fitting T s r L) ≡ around r g L
            → integral s g (cond t (e ∷ fitting T s r L) (fitting T s r L)) ≡ s.sum (s.product e.1 (only s t (g e.0))) (around r g L)
        go true h = ap (s.sum _) h
        go false h = h ∙ sym (ap (λ v. s.sum v (around r g L)) (f.product_zero e.1) ∙ zero_sum f _)

    in_fitting : (r : Row A) (L : Bag A K) (a : Row A) → In a (rows_in (fitting T s r L)) → In a (rows_in L) × (compatible T r a ≡ true)
    in_fitting r [] a i = elim i [ ]
    in_fitting r (e ∷ L) a i = go (compatible T r e.0) refl i (λ j. in_fitting r L a j)
      where
        go : (t : Bool) → compatible T r e.0 ≡ t → In a (rows_in (cond t (e ∷ fitting T s r L) (fitting T s r L)))
            → (In a (rows_in (fitting T s r L)) → In a (rows_in L) × (compatible T r a ≡ true)) → In a (rows_in (e ∷ L)) × (compatible T r a ≡ true)
        go true z (inl j) h = (inl j, ap (compatible T r) j ∙ z)
        go true z (inr j) h = let w = h j in (inr w.0, w.1)
        go false z j h = let w = h j in (inr w.0, w.1)

    fitting_in : (r : Row A) (L : Bag A K) (a : Row A) → In a (rows_in L) → compatible T r a ≡ true → In a (rows_in (fitting T s r L))
    fitting_in r [] a i h = elim i [ ]
    fitting_in r (e ∷ L) a (inl i) h =
        subst (λ t. In a (rows_in (cond t (e ∷ fitting T s r L) (fitting T s r L)))) (sym h ∙ ap (compatible T r) i) (inl i)
    fitting_in r (e ∷ L) a (inr i) h = further (compatible T r e.0) (fitting_in r L a i h)
      where
        further : (t : Bool) → In a (rows_in (fitting T s r L)) → In a (rows_in (cond t (e ∷ fitting T s r L) (fitting T s r L)))
        further true j = inr j
        further false j = j

    -- ---- merged with one row

    pub merged_made : (e : Row A × K) → Tidy e.0 → (C : Bag A K) (sum : (Row A → K) → K) (row : Row A → Type 0) → Holds s sum row C
        → Made s e.1 (λ g. sum (λ b. g (merge e.0 b))) (λ c. (b : Row A) × row b × (c ≡ merge e.0 b)) (merged T s e C)
    merged_made e t C sum row h = subst (Made s e.1 (λ g. sum (λ b. g (merge e.0 b))) (λ c. (b : Row A) × row b × (c ≡ merge e.0 b))) (sym (merged_imaged s T context e C))
        (imaged_made s f (merge e.0) e.1 C sum row h (λ b i. tidy_merge e.0 b t (h.table.neat b i)))

    abbrev pub option_image : Row A → ((Row A → K) → K) → (Row A → K) → Row A → K
    option_image r sum g a = s.sum (sum (λ b. only s (compatible T r (merge a b)) (g (merge a b)))) (only s (lone sum a) (g a))

    abbrev pub OptionRow : Row A → (Row A → Type 0) → Row A → Row A → Type 0
    OptionRow r row a c = ((b : Row A) × row b × (compatible T r c ≡ true) × (c ≡ merge a b)) ⊎ (c ≡ a)

    pub optioned_made : (r : Row A) (e : Row A × K) → Tidy e.0 → (C : Bag A K) (sum : (Row A → K) → K) (row : Row A → Type 0) → Holds s sum row C
        → Made s e.1 (λ g. option_image r sum g e.0) (OptionRow r row e.0) (optioned T s r e C)
    optioned_made r e t C sum row h = record {
      neat = λ a i. elim (parts a i) [ inl j ↦ m.neat a (in_fitting r (merged T s e C) a j).0 | inr j ↦ subst Tidy (sym j) t ];
      sums = λ g.
          integral-++ f g (fitting T s r (merged T s e C)) ((e.0, only s (alone T s e.0 C) e.1) ∷ [])
          ∙ ap₂ s.sum
          (integral_fitting r g (merged T s e C) ∙ m.sums (λ a. only s (compatible T r a) (g a)))
          (f.sum_zero _ ∙ only_product f (alone T s e.0 C) e.1 (g e.0) ∙ sym (product_only f (alone T s e.0 C) e.1 (g e.0))
          ∙ ap (λ b. s.product e.1 (only s b (g e.0))) (alone_integral x f e.0 C ∙ ap s.is_zero (h.balanced (λ b. only s (compatible T e.0 b) s.one))))
          ∙ sym (f.distributes e.1 _ _);
      sound = λ a i. elim (parts a i) [
        | inl j ↦ (let w = in_fitting r (merged T s e C) a j in let v = m.sound a w.0 in inl (v.0, v.1, w.1, v.2))
        | inr j ↦ inr j
      ];
      complete = λ a i. back a (elim i [
        | inl j ↦ inl (fitting_in r (merged T s e C) a (m.complete a (j.0, j.1, j.3)) j.2)
        | inr j ↦ inr j
      ]);
    }
      where
        m : Made s e.1 (λ g. sum (λ b. g (merge e.0 b))) (λ c. (b : Row A) × row b × (c ≡ merge e.0 b)) (merged T s e C)
        m = merged_made e t C sum row h

        apart_rows : rows_in (optioned T s r e C) ≡ rows_in (fitting T s r (merged T s e C)) ++ e.0 ∷ []
        apart_rows = rows_append (fitting T s r (merged T s e C)) ((e.0, only s (alone T s e.0 C) e.1) ∷ [])

        parts : (a : Row A) → In a (rows_in (optioned T s r e C)) → In a (rows_in (fitting T s r (merged T s e C))) ⊎ (a ≡ e.0)
        parts a i =
            elim (in_either a (rows_in (fitting T s r (merged T s e C))) (e.0 ∷ []) (subst (λ l. In a l) apart_rows i)) [
              | inl j ↦ inl j
              | inr j ↦ elim j [ inl k ↦ inr k | inr k ↦ elim k [ ] ]
            ]

        back : (a : Row A) → In a (rows_in (fitting T s r (merged T s e C))) ⊎ (a ≡ e.0) → In a (rows_in (optioned T s r e C))
        back a i = subst (λ l. In a l) (sym apart_rows) (elim i [
          | inl j ↦ in_left a (rows_in (fitting T s r (merged T s e C))) (e.0 ∷ []) j
          | inr j ↦ in_right a (rows_in (fitting T s r (merged T s e C))) (e.0 ∷ []) (inl j)
        ])
