-- Tables of weight one, with one end fixed: they hold the pairs of a path that weighs one.
use Rattle.std.proofs.Common.{◌≡◌, Bool, true, false, cond, ◌&&◌, List, [], ◌∷◌, Some, Option, sym, refl, ap, ◌∙◌, subst, ap₂, inl, inr}
use mathlib.Core.Path.{fun_ext}
use Rattle.std.proofs.lemmas.Bool.{and_parts, and_from}
use Rattle.weights.specs.Scales.{Scale, Fair}
use Rattle.grammar.specs.Syntax.{Path}
use Rattle.semantics.specs.Terms.{Terms, Exact, In, has, Distinct}
use Rattle.semantics.specs.Rows.{Row}
use Rattle.semantics.specs.Bags.{Bag, total, only}
use Rattle.semantics.specs.Graphs.{Graph, Closed, pair, weigh}
use Rattle.semantics.proofs.Lists.{clash, in_has, has_in}
use Rattle.semantics.proofs.Totals.{zero_sum, one_product, only_product}
use Rattle.semantics.proofs.Integrals.{integral}
use Rattle.semantics.proofs.Links.{pair_ends}
use Rattle.walks.specs.Plans.{allows}
use Rattle.walks.specs.Crowds.{Apart}
use Rattle.solving.specs.Solved.{left_of, right_of}
use Rattle.answering.proofs.Apart.{total_members}
use Rattle.answering.specs.Promises.{rows_in}
use Rattle.answering.proofs.Holding.{Plain, Holds}
use Rattle.answering.proofs.PathSums.{both, PathRow, path_sum, sum_left, sum_right}

-- the rows of those terms that pass
abbrev chosen : {A : Type 0} → (A → Bool) → (A → Row A) → List A → List (Row A)
chosen test make [] = []
chosen test make (b ∷ U) = cond (test b) (make b ∷ chosen test make U) (chosen test make U)

in_chosen : {A : Type 0} (test : A → Bool) (make : A → Row A) (U : List A) (c : Row A) → In c (chosen test make U) → (b : A) × In b U × (test b ≡ true) × (c ≡ make b)
in_chosen {A} test make [] c i = elim i [ ]
in_chosen {A} test make (b ∷ U) c i = go (test b) refl i (λ j. in_chosen test make U c j)
  where
    go : (t : Bool) → test b ≡ t → In c (cond t (make b ∷ chosen test make U) (chosen test make U))
        → (In c (chosen test make U) → (a : A) × In a U × (test a ≡ true) × (c ≡ make a)) → (a : A) × In a (b ∷ U) × (test a ≡ true) × (c ≡ make a)
    go true e (inl j) h = (b, inl refl, e, j)
    go true e (inr j) h = let r = h j in (r.0, inr r.1, r.2, r.3)
    go false e j h = let r = h j in (r.0, inr r.1, r.2, r.3)

chosen_in : {A : Type 0} (test : A → Bool) (make : A → Row A) (U : List A) (b : A) → In b U → test b ≡ true → In (make b) (chosen test make U)
chosen_in test make [] b i e = elim i [ ]
chosen_in test make (d ∷ U) b (inl i) e =
    subst (λ t. In (make b) (cond t (make d ∷ chosen test make U) (chosen test make U))) (sym e ∙ ap test i) (inl (ap make i))
chosen_in test make (d ∷ U) b (inr i) e = further (test d) (chosen_in test make U b i e)
  where
    further : (t : Bool) → In (make b) (chosen test make U) → In (make b) (cond t (make d ∷ chosen test make U) (chosen test make U))
    further true j = inr j
    further false j = j

module _ {A : Type 0} {T : Terms A} (x : Exact T) where
  chosen_apart : (test : A → Bool) (make : A → Row A) (U : List A) → ((a b : A) → make a ≡ make b → a ≡ b) → Distinct T U → Apart (chosen test make U)
  chosen_apart test make [] j d = tt
  chosen_apart test make (b ∷ U) j d = go (test b) (chosen_apart test make U j d.1)
    where
      go : (t : Bool) → Apart (chosen test make U) → Apart (cond t (make b ∷ chosen test make U) (chosen test make U))
      go true a = (
        (λ i. let r = in_chosen test make U (make b) i in
            clash (in_has x b U (subst (λ z. In z U) (sym (j b r.0 r.3)) r.1)) d.0),
        a,
      )
      go false a = a

module _ {A : Type 0} {K : Type 0} {s : Scale K} (f : Fair s) where
  chosen_total : (test : A → Bool) (make : A → Row A) (g : Row A → K) (U : List A) → total s g (chosen test make U) ≡ total s (λ b. only s (test b) (g (make b))) U
  chosen_total test make g [] = refl
  chosen_total test make g (b ∷ U) = go (test b) (chosen_total test make g U)
    where
      go : (t : Bool) → total s g (chosen test make U) ≡ total s (λ a. only s (test a) (g (make a))) U
          → total s g (cond t (make b ∷ chosen test make U) (chosen test make U)) ≡ s.sum (only s t (g (make b))) (total s (λ a. only s (test a) (g (make a))) U)
      go true h = ap (s.sum (g (make b))) h
      go false h = h ∙ sym (zero_sum f _)

  ones_total : (g : Row A → K) (B : Bag A K) → ((e : Row A × K) → In e B → e.1 ≡ s.one) → integral s g B ≡ total s g (rows_in B)
  ones_total g [] o = refl
  ones_total g (e ∷ B) o = ap₂ s.sum (ap (λ u. s.product u (g e.0)) (o e (inl refl)) ∙ one_product f (g e.0)) (ones_total g B (λ d i. o d (inr i)))

module _ {A : Type 0} {T : Terms A} (x : Exact T) {K : Type 0} {s : Scale K} (f : Fair s) where
  abbrev pub Of : (A → Bool) → (A → Row A) → Row A → Type 0
  Of test make c = (b : A) × (test b ≡ true) × (c ≡ make b)

  pub plain_integral : (test : A → Bool) (make : A → Row A) (U : List A) → ((a b : A) → make a ≡ make b → a ≡ b) → Distinct T U
      → ((a : A) → test a ≡ true → In a U) → (B : Bag A K) → Plain s (Of test make) B
      → (g : Row A → K) → integral s g B ≡ total s (λ b. only s (test b) (g (make b))) U
  plain_integral test make U j d i B h g =
      ones_total f g B h.ones
      ∙ total_members f g (rows_in B) (chosen test make U) h.table.once (chosen_apart x test make U j d)
      (λ c k. let r = h.sound c k in subst (λ z. In z (chosen test make U)) (sym r.2) (chosen_in test make U r.0 (i r.0 r.1) r.1))
      (λ c k. let r = in_chosen test make U c k in h.complete c (r.0, r.2, r.3))
      ∙ chosen_total f test make g U

module _ {A : Type 0} {T : Terms A} (x : Exact T) (G : Graph A) (c : Closed T G) {K : Type 0} {s : Scale K} (f : Fair s) (p : Path A)
    (unit : (a b : A) → weigh T G s p a b ≡ only s (pair T G p a b) s.one) where
  under : (t u : Bool) (v : K) → only s (t && u) v ≡ only s t (s.product (only s u s.one) v)
  under true u v = sym (only_product f u s.one v ∙ ap (only s u) (one_product f v))
  under false u v = refl

  second_same : (a b d : A) → both a b ≡ both a d → b ≡ d
  second_same a b d e = let q : Some b ≡ Some d = ap right_of e in cc

  first_same : (b a d : A) → both a b ≡ both d b → a ≡ d
  first_same b a d e = let q : Some a ≡ Some d = ap left_of e in cc

  -- from the left end
  pub plain_left : (a : A) (y : Option A) → has T a G.universe ≡ true → (B : Bag A K)
      → Plain s (Of x f (λ b. allows T y b && pair T G p a b) (both a)) B → Holds s (path_sum T G s p (Some a) y) (PathRow T G p (Some a) y) B
  plain_left a y h B k = record {
    table = k.table;
    balanced = λ g.
        plain_integral x f (λ b. allows T y b && pair T G p a b) (both a) G.universe (second_same a) c.distinct
        (λ b e. has_in x b G.universe (pair_ends x G c p a b (and_parts (allows T y b) (pair T G p a b) e).1).1) B k g
        ∙ ap (λ m. total s m G.universe) (fun_ext (λ b. under (allows T y b) (pair T G p a b) (g (both a b))
        ∙ ap (λ u. only s (allows T y b) (s.product u (g (both a b)))) (sym (unit a b))))
        ∙ sym (sum_left x G c.distinct f p a y g h);
    sound = λ r i. (let n = k.sound r i in let q = and_parts (allows T y n.0) (pair T G p a n.0) n.1 in (a, n.0, x.told a, q.0, q.1, n.2));
    complete = λ r i. (let e = x.tells a i.0 i.2 in
        k.complete r (i.1, and_from _ _ i.3 (subst (λ z. pair T G p z i.1 ≡ true) (sym e) i.4), i.5 ∙ ap (λ z. both z i.1) (sym e)));
  }

  -- from the right end
  pub plain_right : (o : Option A) (b : A) → has T b G.universe ≡ true → (B : Bag A K)
      → Plain s (Of x f (λ a. allows T o a && pair T G p a b) (λ a. both a b)) B → Holds s (path_sum T G s p o (Some b)) (PathRow T G p o (Some b)) B
  plain_right o b h B k = record {
    table = k.table;
    balanced = λ g.
        plain_integral x f (λ a. allows T o a && pair T G p a b) (λ a. both a b) G.universe (first_same b) c.distinct
        (λ a e. has_in x a G.universe (pair_ends x G c p a b (and_parts (allows T o a) (pair T G p a b) e).1).0) B k g
        ∙ ap (λ m. total s m G.universe) (fun_ext (λ a. under (allows T o a) (pair T G p a b) (g (both a b))
        ∙ ap (λ u. only s (allows T o a) (s.product u (g (both a b)))) (sym (unit a b))))
        ∙ sym (sum_right x G c.distinct f p o b g h);
    sound = λ r i. (let n = k.sound r i in let q = and_parts (allows T o n.0) (pair T G p n.0 b) n.1 in (n.0, b, q.0, x.told b, q.1, n.2));
    complete = λ r i. (let e = x.tells b i.1 i.3 in
        k.complete r (i.0, and_from _ _ i.2 (subst (λ z. pair T G p i.0 z ≡ true) (sym e) i.4), i.5 ∙ ap (λ z. both i.0 z) (sym e)));
  }
