-- A bounded question means the same over two graphs that agree where the plan over the second needs it. Of the bags only the rows are compared that are
-- compatible with what is fixed, so that each side of an AND is compared where the other has come.
use Rattle.std.proofs.Common.{◌≡◌, ℕ, zero, suc, Bool, true, false, cond, ◌&&◌, ◌⊎◌, List, [], ◌∷◌, ◌++◌, Some, None, Option, sym, refl, ap, ◌∙◌, subst, ap₂, inl, inr}
use mathlib.Core.Path.{fun_ext}
use lib.Bits.{bit_or}
use Rattle.std.proofs.lemmas.Bool.{and_parts}
use Rattle.weights.specs.Scales.{Scale, Fair}
use Rattle.weights.proofs.Fairness.{lawful_codes_are_fair}
use Rattle.grammar.specs.Syntax.{Path, End, constant, variable, Pattern, empty, line, and, union, opt}
use Rattle.grammar.specs.Bounded.{fixed}
use Rattle.grammar.specs.Masks.{member}
use Rattle.grammar.specs.Judged.{sure_mask, judged}
use Rattle.semantics.specs.Terms.{Terms, Exact, In, has}
use Rattle.semantics.specs.Rows.{Row, single, given, merge, compatible}
use Rattle.semantics.specs.Bags.{Bag, only, join, alone, bare}
use Rattle.semantics.specs.Graphs.{Graph, Closed, weigh}
use Rattle.semantics.specs.Meaning.{end_row, stands, stand, meaning, possible}
use Rattle.semantics.specs.Webs.{Triple, terms_in, term_of_end, terms_in_path, terms_listed, about, graph_of, Met, Universe}
use Rattle.semantics.proofs.Lists.{clash, by_test, or_second, in_left, in_right, in_has}
use Rattle.semantics.proofs.RowLaws.{compatible_grouping, compatible_first, compatible_second}
use Rattle.semantics.proofs.Totals.{total_local, only_only}
use Rattle.semantics.proofs.Integrals.{integral, Balanced, balanced_weight, integral-++, integral_only, integral_join, integral_bare, alone_integral, join_order}
use Rattle.semantics.proofs.Paths.{weigh_to, weigh_from}
use Rattle.semantics.proofs.Lines.{spot, spot_zero, integral_line, total_twice}
use Rattle.semantics.proofs.Codings.{weight_coded}
use Rattle.semantics.proofs.Universes.{web_closed}
use Rattle.walks.specs.Plans.{left_first, fixed_to, allows, part, to_path, to_left_side, from_left_side, to_right_side, from_right_side, to_left_union, to_right_union, to_outside, to_option, there, Needed}
use Rattle.walks.specs.Promises.{whole, Grows, WalkIsComplete}
use Rattle.semantics.proofs.Possible.{rows_of, in_rows, rows_possible}
use Rattle.walks.proofs.Gives.{Known, Gives, gives_merge, gives_nothing, possible_gives}
use Rattle.walks.proofs.Paths.{Agreed, walk_path}

module _ {A : Type 0} {T : Terms A} (x : Exact T) {K : Type 0} {s : Scale K} (f : Fair s) where
  -- the integral over the rows that are compatible with r
  abbrev pub around : Row A → (Row A → K) → Bag A K → K
  around r g L = integral s (λ a. only s (compatible T r a) (g a)) L

  pub record BalancedAt (r : Row A) (L M : Bag A K) : Type 0 where
    pub at : (g : Row A → K) → around r g L ≡ around r g M

  local : (G : Graph A) (r : Row A) (g h : Row A → K) (L : Bag A K) → ((a : Row A) → In a (rows_of T s L) → compatible T r a ≡ true → g a ≡ h a)
      → around r g L ≡ around r h L
  local G r g h L e = total_local f _ _ L (λ d i. ap (s.product d.1) (by_test (compatible T r d.0)
      (λ t. ap (only s (compatible T r d.0)) (e d.0 (in_rows T s d L i) t))
      (λ t. ap (λ b. only s b (g d.0)) t ∙ sym (ap (λ b. only s b (h d.0)) t))))

  around_join : (r : Row A) (g : Row A → K) (L M : Bag A K)
      → around r g (join T s L M) ≡ around r (λ a. around (merge r a) (λ b. g (merge a b)) M) L
  around_join r g L M =
      integral_join x f _ L M
      ∙ ap (λ u. integral s u L) (fun_ext (λ a.
      ap (λ u. integral s u M) (fun_ext (λ b.
      only_only f (compatible T a b) (compatible T r (merge a b)) _
      ∙ ap (λ t. only s t (g (merge a b))) (sym (compatible_grouping x r a b))
      ∙ sym (only_only f (compatible T r a) (compatible T (merge r a) b) _)))
      ∙ sym (integral_only f (compatible T r a) (λ b. only s (compatible T (merge r a) b) (g (merge a b))) M)))

  insert : (t b c : Bool) (u : K) → (b ≡ true → c ≡ true → t ≡ true) → only s b (only s c u) ≡ only s t (only s b (only s c u))
  insert true b c u h = refl
  insert false true true u h = clash (h refl refl) refl
  insert false true false u h = refl
  insert false false c u h = refl

  -- the right side of an OPT is compared by its left row alone
  around_option : (r : Row A) (g : Row A → K) (L M : Bag A K)
      → around r g (join T s L M) ≡ around r (λ a. around a (λ b. only s (compatible T r (merge a b)) (g (merge a b))) M) L
  around_option r g L M =
      integral_join x f _ L M
      ∙ ap (λ u. integral s u L) (fun_ext (λ a.
      ap (λ u. integral s u M) (fun_ext (λ b. insert (compatible T r a) (compatible T a b) (compatible T r (merge a b)) _ (compatible_first x r a b)))
      ∙ sym (integral_only f (compatible T r a) (λ b. only s (compatible T a b) (only s (compatible T r (merge a b)) (g (merge a b)))) M)))

  crossed : (b c : Bool) (u : K) → only s b (only s c u) ≡ only s c (only s b u)
  crossed true c u = refl
  crossed false true u = refl
  crossed false false u = refl

  around_bare : (r : Row A) (g : Row A → K) (L M : Bag A K) → around r g (bare T s L M) ≡ around r (λ a. only s (alone T s a M) (g a)) L
  around_bare r g L M =
      integral_bare x f _ L M ∙ ap (λ u. integral s u L) (fun_ext (λ a. crossed (alone T s a M) (compatible T r a) (g a)))

  -- nothing fixed compares all rows
  pub around_nothing : (L M : Bag A K) → BalancedAt [] L M → Balanced s L M
  around_nothing L M h = record { at = h.at }

  module _ (H : Graph A) (r : Row A) (L M N P : Bag A K) where
    join_at : BalancedAt r L M → ((a : Row A) → In a (rows_of T s M) → compatible T r a ≡ true → BalancedAt (merge r a) N P)
        → BalancedAt r (join T s L N) (join T s M P)
    join_at h i = record {
      at = λ g.
          around_join r g L N ∙ h.at _
          ∙ local H r _ (λ a. around (merge r a) (λ b. g (merge a b)) P) M (λ a j e. (i a j e).at _)
          ∙ sym (around_join r g M P);
    }

    option_at : BalancedAt r L M → ((a : Row A) → In a (rows_of T s M) → compatible T r a ≡ true → BalancedAt a N P)
        → BalancedAt r (join T s L N ++ bare T s L N) (join T s M P ++ bare T s M P)
    option_at h i = record {
      at = λ g.
          integral-++ f _ (join T s L N) (bare T s L N)
          ∙ ap₂ s.sum
          (around_option r g L N ∙ h.at _
          ∙ local H r _ (λ a. around a (λ b. only s (compatible T r (merge a b)) (g (merge a b))) P) M (λ a j e. (i a j e).at _)
          ∙ sym (around_option r g M P))
          (around_bare r g L N ∙ h.at _
          ∙ local H r _ (λ a. only s (alone T s a P) (g a)) M (λ a j e. ap (λ t. only s t (g a))
          (alone_integral x f a N ∙ ap s.is_zero ((i a j e).at (λ b. s.one)) ∙ sym (alone_integral x f a P)))
          ∙ sym (around_bare r g M P))
          ∙ sym (integral-++ f _ (join T s M P) (bare T s M P));
    }

  turned_at : (r : Row A) (L M N P : Bag A K) → BalancedAt r (join T s M L) (join T s P N) → BalancedAt r (join T s L M) (join T s N P)
  turned_at r L M N P h = record { at = λ g. (join_order x f L M).at _ ∙ h.at g ∙ (join_order x f P N).at _ }

-- ---- ends

module _ {A : Type 0} {T : Terms A} (x : Exact T) where
  compatible_single : (r : Row A) (v : ℕ) (a : A) → compatible T r (single v a) ≡ true → allows T (given r v) a ≡ true
  compatible_single [] v a h = refl
  compatible_single (None ∷ r) zero a h = refl
  compatible_single (Some b ∷ r) zero a h = (and_parts (T.same b a) _ h).0
  compatible_single (y ∷ r) (suc v) a h = compatible_single r v a (later y (single v a) h)
    where
      later : (y : Option A) (q : Row A) → compatible T (y ∷ r) (None ∷ q) ≡ true → compatible T r q ≡ true
      later None q h = h
      later (Some b) q h = h

  pub end_allowed : (r : Row A) (e : End A ℕ) (a : A) → stands T e a ≡ true → compatible T r (end_row e a) ≡ true → allows T (fixed_to r e) a ≡ true
  end_allowed r (constant t) a h g = h
  end_allowed r (variable v) a h g = compatible_single r v a g

  pub end_known : (G : Graph A) (m : ℕ) (r : Row A) (e : End A ℕ) → ((t : A) → In t (term_of_end e) → has T t G.universe ≡ true) → Gives x G m r
      → Known T G (fixed (member m) e) (fixed_to r e)
  end_known G m r (constant t) h g = h t (inl refl)
  end_known G m r (variable v) h g = g v

-- ---- the walk

module _ {A : Type 0} {T : Terms A} (x : Exact T) (G H : Graph A) (cG : Closed T G) (cH : Closed T H)
    (more : (a : A) → has T a H.universe ≡ true → has T a G.universe ≡ true) {K : Type 0} {s : Scale K} (f : Fair s) where
  abbrev TermsIn : Pattern A ℕ → Type 0
  TermsIn p = (t : A) → In t (terms_in p) → has T t H.universe ≡ true

  pub left_terms : (p q l : List A) → l ≡ p ++ q → ((t : A) → In t l → has T t H.universe ≡ true) → (t : A) → In t p → has T t H.universe ≡ true
  left_terms p q l e h t i = h t (subst (λ z. In t z) (sym e) (in_left t p q i))

  pub right_terms : (p q l : List A) → l ≡ p ++ q → ((t : A) → In t l → has T t H.universe ≡ true) → (t : A) → In t q → has T t H.universe ≡ true
  right_terms p q l e h t i = h t (subst (λ z. In t z) (sym e) (in_right t p q i))

  line_at : (m : ℕ) (r : Row A) (e d : End A ℕ) (p : Path A) → judged (line e p d) m ≡ true → TermsIn (line e p d) → Gives x H m r
      → Agreed T G H (part m (line e p d) r) → BalancedAt x f r (meaning T G s (line e p d)) (meaning T H s (line e p d))
  line_at m r e d p o n g h = record { at = λ F. go (λ c. only s (compatible T r c) (F c)) (λ c z. ap (λ b. only s b (F c)) z) }
    where
      known_e : Known T H (fixed (member m) e) (fixed_to r e)
      known_e = end_known x H m r e (λ t i. n t (in_left t (term_of_end e ++ terms_in_path p) (term_of_end d) (in_left t (term_of_end e) (terms_in_path p) i))) g

      known_d : Known T H (fixed (member m) d) (fixed_to r d)
      known_d = end_known x H m r d (λ t i. n t (in_right t (term_of_end e ++ terms_in_path p) (term_of_end d) i)) g

      same : (a b : A) → stand T e d a b ≡ true → compatible T r (merge (end_row e a) (end_row d b)) ≡ true → weigh T G s p a b ≡ weigh T H s p a b
      same a b t z =
          let u = and_parts (stands T e a) _ t in
          let v = and_parts (stands T d b) (compatible T (end_row e a) (end_row d b)) u.1 in
          walk_path x G H cG cH more f p (fixed (member m) e) (fixed (member m) d) (fixed_to r e) (fixed_to r d) o known_e known_d
          (λ y c. h y (there to_path c)) a b
          (end_allowed x r e a u.0 (compatible_first x r (end_row e a) (end_row d b) v.1 z))
          (end_allowed x r d b v.0 (compatible_second x r (end_row e a) (end_row d b) v.1 z))

      go : (F : Row A → K) → ((c : Row A) → compatible T r c ≡ false → F c ≡ s.zero)
          → integral s F (meaning T G s (line e p d)) ≡ integral s F (meaning T H s (line e p d))
      go F none =
          integral_line T f G F e d p
          ∙ total_twice x f G H cG cH (spot T f G F e p d) (spot T f H F e p d)
          (λ a b. by_test (stand T e d a b)
          (λ t. ap (only s (stand T e d a b)) (by_test (compatible T r (merge (end_row e a) (end_row d b)))
          (λ z. ap₂ s.product (same a b t z) refl)
          (λ z. let w = none (merge (end_row e a) (end_row d b)) z in
          ap₂ s.product refl w ∙ f.product_zero _ ∙ sym (ap₂ s.product refl w ∙ f.product_zero _))))
          (λ t. ap₂ (only s) t refl ∙ sym (ap₂ (only s) t refl)))
          (λ a b z. spot_zero x f G F e d p a b (weigh_to x G cG f p a b z)) (λ b a z. spot_zero x f G F e d p a b (weigh_from x G cG f p b a z))
          (λ a b z. spot_zero x f H F e d p a b (weigh_to x H cH f p a b z)) (λ b a z. spot_zero x f H F e d p a b (weigh_from x H cH f p b a z))
          ∙ sym (integral_line T f H F e d p)

  abbrev bG : Pattern A ℕ → Bag A K
  bG p = meaning T G s p

  abbrev bH : Pattern A ℕ → Bag A K
  bH p = meaning T H s p

  possible_in : (p : Pattern A ℕ) (a : Row A) → In a (rows_of T s (meaning T H s p)) → In a (possible T H p)
  possible_in p a i = subst (λ L. In a L) (rows_possible T H s p) i

  pub walk_part : (p : Pattern A ℕ) (m : ℕ) (r : Row A) → judged p m ≡ true → TermsIn p → Gives x H m r → Agreed T G H (part m p r)
      → BalancedAt x f r (meaning T G s p) (meaning T H s p)
  walk_part empty m r o n g h = record { at = λ F. refl }
  walk_part (line e p d) m r o n g h = line_at m r e d p o n g h
  walk_part (and p q) m r o n g h = by_test (left_first m p q)
      (λ e. let v = and_parts (judged p m) (judged q (bit_or m (sure_mask p))) e in
      join_at x f H r (bG p) (bH p) (bG q) (bH q)
      (walk_part p m r v.0 (left_terms (terms_in p) (terms_in q) _ refl n) g (λ y c. h y (there (to_left_side e) c)))
      (λ a i z. let j = possible_in p a i in
      walk_part q (bit_or m (sure_mask p)) (merge r a) v.1 (right_terms (terms_in p) (terms_in q) _ refl n)
      (gives_merge x H m (sure_mask p) r a g (possible_gives x H p a j)) (λ y c. h y (there (from_left_side e a j z) c))))
      (λ e. let v = and_parts (judged q m) (judged p (bit_or m (sure_mask q))) (or_second (judged p m && judged q (bit_or m (sure_mask p))) _ o e) in
      turned_at x f r (bG p) (bG q) (bH p) (bH q) (join_at x f H r (bG q) (bH q) (bG p) (bH p)
      (walk_part q m r v.0 (right_terms (terms_in p) (terms_in q) _ refl n) g (λ y c. h y (there (to_right_side e) c)))
      (λ a i z. let j = possible_in q a i in
      walk_part p (bit_or m (sure_mask q)) (merge r a) v.1 (left_terms (terms_in p) (terms_in q) _ refl n)
      (gives_merge x H m (sure_mask q) r a g (possible_gives x H q a j)) (λ y c. h y (there (from_right_side e a j z) c)))))
  walk_part (union p q) m r o n g h =
      let v = and_parts (judged p m) (judged q m) (and_parts (judged p m && judged q m) _ o).0 in
      record {
        at = λ F.
            integral-++ f _ (bG p) (bG q)
            ∙ ap₂ s.sum
            ((walk_part p m r v.0 (left_terms (terms_in p) (terms_in q) _ refl n) g (λ y c. h y (there to_left_union c))).at F)
            ((walk_part q m r v.1 (right_terms (terms_in p) (terms_in q) _ refl n) g (λ y c. h y (there to_right_union c))).at F)
            ∙ sym (integral-++ f _ (bH p) (bH q));
      }
  walk_part (opt p q) m r o n g h =
      let v = and_parts (judged p m) (judged q (sure_mask p)) o in
      option_at x f H r (bG p) (bH p) (bG q) (bH q)
      (walk_part p m r v.0 (left_terms (terms_in p) (terms_in q) _ refl n) g (λ y c. h y (there to_outside c)))
      (λ a i z. let j = possible_in p a i in
      walk_part q (sure_mask p) a v.1 (right_terms (terms_in p) (terms_in q) _ refl n) (possible_gives x H p a j)
      (λ y c. h y (there (to_option a j z) c)))

  pub walk_balanced : (p : Pattern A ℕ) → judged p 0 ≡ true → TermsIn p
      → ((i : A) → Needed T H (whole p) i → G.context i ≡ H.context i) → Balanced s (meaning T G s p) (meaning T H s p)
  walk_balanced p o n h = around_nothing x f (bG p) (bH p)
      (walk_part p 0 [] o n (gives_nothing x H) (λ y c i z e. h i (record { asking = y; reached = c; reads = z; iri = e })))

-- ---- over a shelf

module _ {A : Type 0} {T : Terms A} (x : Exact T) (web shelf : A → List (Triple A)) (part_of : (i : A) → (shelf i ≡ web i) ⊎ (shelf i ≡ []))
    (p : Pattern A ℕ) (U V : List A) (u : Universe T web p U) (v : Universe T shelf p V) where
  -- what the shelf has met, the Web has
  pub shelf_met : (a : A) → Met T shelf p a → Met T web p a
  shelf_met a (inl h) = inl h
  shelf_met a (inr h) =
      elim (part_of h.0) [
        | inl e ↦ inr (h.0, h.1, subst (λ l. has T a (terms_listed l) ≡ true) e h.2)
        | inr e ↦ clash (subst (λ l. has T a (terms_listed l) ≡ true) e h.2) refl
      ]

  pub shelf_less : (a : A) → has T a V ≡ true → has T a U ≡ true
  shelf_less a h = u.all a (shelf_met a (v.none_else a h))

  pub question_terms : (t : A) → In t (terms_in p) → has T t V ≡ true
  question_terms t i = v.all t (inl (in_has x t (terms_in p) i))

  shelf_listed : (a : A) (t : A × A) → In t ((graph_of T shelf V).context a) → In t ((graph_of T web U).context a)
  shelf_listed a t i = elim (part_of a) [
    | inl e ↦ subst (λ l. In t (cond (T.is_iri a) (about T a l) [])) e i
    | inr e ↦ elim (none (T.is_iri a) (subst (λ l. In t (cond (T.is_iri a) (about T a l) [])) e i)) [ ]
  ]
    where
      none : (b : Bool) → In t (cond b [] []) → ⊥
      none true j = j
      none false j = j

  pub shelf_grows : Grows T (graph_of T shelf V) (graph_of T web U)
  shelf_grows = record { contexts = shelf_listed; terms = shelf_less }

pub walk_is_complete : {A : Type 0} → WalkIsComplete A
walk_is_complete T x k l web shelf part_of p o U V u v h m =
    sym (weight_coded T (graph_of T web U) k l p m)
    ∙ ap (λ w. w.0) (balanced_weight x (lawful_codes_are_fair k l)
    (walk_balanced x (graph_of T web U) (graph_of T shelf V) (web_closed x web p U u) (web_closed x shelf p V v)
    (shelf_less x web shelf part_of p U V u v) (lawful_codes_are_fair k l) p o (question_terms x web shelf part_of p U V u v)
    (λ i n. ap (λ r. cond (T.is_iri i) (about T i r) []) (sym (h i n)))) m)
    ∙ weight_coded T (graph_of T shelf V) k l p m
