-- A path that can be walked weighs the same over two graphs that agree where the plan over the second needs it.
use Rattle.std.proofs.Common.{◌≡◌, Bool, true, false, ◌&&◌, Some, None, Option, sym, refl, ap, ◌∙◌, subst, ap₂}
use Rattle.std.proofs.lemmas.Bool.{and_parts}
use Rattle.weights.specs.Scales.{Scale, Fair}
use Rattle.grammar.specs.Syntax.{Path, link, negated, inverse, star, sequence, alternative}
use Rattle.grammar.specs.Walkable.{walkable}
use Rattle.semantics.specs.Terms.{Terms, Exact, has}
use Rattle.semantics.specs.Bags.{only}
use Rattle.semantics.specs.Graphs.{Graph, Closed, leads, leads_outside, pair, weigh}
use Rattle.semantics.proofs.Lists.{clash, iff, by_test, or_second}
use Rattle.semantics.proofs.Links.{pair_ends, star_here, star_backward, star_before}
use Rattle.semantics.proofs.Totals.{zero_product}
use Rattle.semantics.proofs.Paths.{no_pair, pair_same, star_from_same, sequence_same}
use Rattle.walks.specs.Plans.{left_step_first, from_left, allows, Asking, path, to_inverse, to_left_choice, to_right_choice, to_left_step, from_left_step, to_right_step, from_right_step, star_onward, star_backward as backwards, Reached, here, there, Reads, for_link, for_negated}
use Rattle.walks.proofs.Gives.{Known}

-- the two graphs have the same context wherever the plan over the second reads it
abbrev pub Agreed : {A : Type 0} → Terms A → (G H : Graph A) → Asking A → Type 0
Agreed {A} T G H q = (y : Asking A) → Reached T H q y → (i : A) → Reads y i → T.is_iri i ≡ true → G.context i ≡ H.context i

module _ {A : Type 0} {T : Terms A} (x : Exact T) (G H : Graph A) (cG : Closed T G) (cH : Closed T H)
    (more : (a : A) → has T a H.universe ≡ true → has T a G.universe ≡ true) where
  same_context : (a : A) → (T.is_iri a ≡ true → G.context a ≡ H.context a) → G.context a ≡ H.context a
  same_context a h = by_test (T.is_iri a) h (λ e. cG.iris a e ∙ sym (cH.iris a e))

  pub known_has : (l : Bool) (o : Option A) (a : A) → l ≡ true → Known T H l o → allows T o a ≡ true → has T a H.universe ≡ true
  known_has l None a e k f = clash e k
  known_has l (Some b) a e k f = subst (λ z. has T z H.universe ≡ true) (x.tells b a f) k

  star_to_same : (p : Path A) (b : A) → has T b H.universe ≡ true
      → ((m : A) → pair T H (star p) m b ≡ true → (n : A) → pair T G p n m ≡ pair T H p n m)
      → (a : A) → pair T G (star p) a b ≡ pair T H (star p) a b
  star_to_same p b u h a =
      iff (pair T G (star p) a b) (pair T H (star p) a b)
      (λ e. (star_backward x G p Both (λ c d i z. one_more c d i (sym (h d z.1 c) ∙ i) z) a b e start).1)
      (λ e. (star_backward x H p Both (λ c d i z. one_more c d (h d z.1 c ∙ i) i z) a b e start).0)
    where
      Both : A → Type 0
      Both c = (pair T G (star p) c b ≡ true) × (pair T H (star p) c b ≡ true)

      one_more : (c d : A) → pair T G p c d ≡ true → pair T H p c d ≡ true → Both d → Both c
      one_more c d i j z = (star_before x G cG p c d b i z.0, star_before x H cH p c d b j z.1)

      start : Both b
      start = (star_here x G p b (more b u), star_here x H p b u)

  module _ {K : Type 0} {s : Scale K} (f : Fair s) where
    abbrev wG : Path A → A → A → K
    wG p a b = weigh T G s p a b

    abbrev wH : Path A → A → A → K
    wH p a b = weigh T H s p a b

    -- one side is the same, and the other where the first is a pair
    left_product : (p q : Path A) (a b m : A) → wG p a m ≡ wH p a m → (pair T H p a m ≡ true → wG q m b ≡ wH q m b)
        → s.product (wG p a m) (wG q m b) ≡ s.product (wH p a m) (wH q m b)
    left_product p q a b m e h = by_test (pair T H p a m)
        (λ i. ap₂ s.product e (h i))
        (λ i. let z = no_pair T H f p a m i in
        ap (λ u. s.product u (wG q m b)) (e ∙ z) ∙ zero_product f _ ∙ sym (ap (λ u. s.product u (wH q m b)) z ∙ zero_product f _))

    right_product : (p q : Path A) (a b m : A) → wG q m b ≡ wH q m b → (pair T H q m b ≡ true → wG p a m ≡ wH p a m)
        → s.product (wG p a m) (wG q m b) ≡ s.product (wH p a m) (wH q m b)
    right_product p q a b m e h = by_test (pair T H q m b)
        (λ i. ap₂ s.product (h i) e)
        (λ i. let z = no_pair T H f q m b i in
        ap (s.product (wG p a m)) (e ∙ z) ∙ f.product_zero _ ∙ sym (ap (s.product (wH p a m)) z ∙ f.product_zero _))

    pub walk_path : (p : Path A) (l r : Bool) (o u : Option A) → walkable p l r ≡ true → Known T H l o → Known T H r u
        → Agreed T G H (path l r p o u) → (a b : A) → allows T o a ≡ true → allows T u b ≡ true → weigh T G s p a b ≡ weigh T H s p a b
    walk_path (link v) l r None u w ko ku h a b fa fb = clash w ko
    walk_path (link v) l r (Some c) u w ko ku h a b fa fb =
        ap (λ k. only s (leads T v b k) s.one) (subst (λ z. G.context z ≡ H.context z) (x.tells c a fa) (same_context c (h _ here c for_link)))
    walk_path (negated vs) l r None u w ko ku h a b fa fb = clash w ko
    walk_path (negated vs) l r (Some c) u w ko ku h a b fa fb =
        ap (λ k. only s (leads_outside T vs b k) s.one) (subst (λ z. G.context z ≡ H.context z) (x.tells c a fa) (same_context c (h _ here c for_negated)))
    walk_path (inverse p) l r o u w ko ku h a b fa fb = walk_path p r l u o w ku ko (λ c z. h c (there to_inverse z)) b a fb fa
    walk_path (alternative p q) l r o u w ko ku h a b fa fb =
        let e = and_parts (walkable p l r) (walkable q l r) w in
        ap₂ s.sum
        (walk_path p l r o u e.0 ko ku (λ c z. h c (there to_left_choice z)) a b fa fb)
        (walk_path q l r o u e.1 ko ku (λ c z. h c (there to_right_choice z)) a b fa fb)
    walk_path (sequence p q) l r o u w ko ku h a b fa fb = by_test (left_step_first l r p q)
        (λ e. let v = and_parts (walkable p l false) (walkable q true r) e in
        sequence_same x G H cG cH f p q a b (λ m. left_product p q a b m
        (walk_path p l false o None v.0 ko refl (λ c z. h c (there (to_left_step e) z)) a m fa refl)
        (λ i. walk_path q true r (Some m) u v.1 (pair_ends x H cH p a m i).1 ku
        (λ c z. h c (there (from_left_step e a m fa i) z)) m b (x.told m) fb)))
        (λ e. let v = and_parts (walkable q false r) (walkable p l true) (or_second (walkable p l false && walkable q true r) _ w e) in
        sequence_same x G H cG cH f p q a b (λ m. right_product p q a b m
        (walk_path q false r None u v.0 refl ku (λ c z. h c (there (to_right_step e) z)) m b refl fb)
        (λ i. walk_path p l true o (Some m) v.1 ko (pair_ends x H cH q m b i).0
        (λ c z. h c (there (from_right_step e m b fb i) z)) a m fa (x.told m))))
    walk_path (star p) l r o u w ko ku h a b fa fb = ap (λ t. only s t s.one) (by_test (from_left l p)
        (λ e. let v = and_parts l (walkable p true false) e in
        let g = known_has l o a v.0 ko fa in
        star_from_same x G H cG cH p a (more a g) g (λ m i n. pair_same x G H cG cH f p m n
        (walk_path p true false (Some m) None v.1 (pair_ends x H cH (star p) a m i).1 refl
        (λ c z. h c (there (star_onward e a m fa i) z)) m n (x.told m) refl)) b)
        (λ e. let v = and_parts r (walkable p false true) (or_second (l && walkable p true false) _ w e) in
        star_to_same p b (known_has r u b v.0 ku fb) (λ m i n. pair_same x G H cG cH f p n m
        (walk_path p false true None (Some m) v.1 refl (pair_ends x H cH (star p) m b i).0
        (λ c z. h c (there (backwards e m b fb i) z)) n m refl (x.told m))) a))
