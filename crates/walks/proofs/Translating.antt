-- A translated question means what the question means, translated.
use Rattle.std.proofs.Common.{◌≡◌, ℕ, zero, suc, Bool, true, false, cond, not, ◌&&◌, ◌||◌, eqb, List, [], ◌∷◌, ◌++◌, Some, None, Option, sym, refl, ap, ◌∙◌, subst, ap₂, inl, inr}
use lib.Bits.{bit_and, bit_or}
use Rattle.weights.specs.Scales.{Scale, codes}
use Rattle.grammar.specs.Syntax.{Path, link, negated, inverse, star, sequence, alternative, End, constant, variable, Pattern, empty, line, and, union, opt}
use Rattle.grammar.specs.Bounded.{fixed}
use Rattle.grammar.specs.Masks.{member}
use Rattle.grammar.specs.Walkable.{walkable}
use Rattle.grammar.specs.Judged.{end_mask, sure_mask, judged}
use Rattle.semantics.specs.Terms.{Terms, Exact, In, any, gather, has}
use Rattle.semantics.specs.Rows.{Row, single, given, merge_at, merge, agree_at, compatible}
use Rattle.semantics.specs.Bags.{Bag, total, only, pairs, join, alone, bare}
use Rattle.semantics.specs.Graphs.{Graph, leads, leads_outside, linked, pair, weigh}
use Rattle.semantics.specs.Meaning.{end_row, stands, stand, merges_of, merges, meaning, possible}
use Rattle.semantics.specs.Webs.{term_of_end, terms_in_path, terms_in}
use Rattle.semantics.proofs.Lists.{clash, in_left, in_right, in_gather, has_in}
use Rattle.semantics.proofs.Possible.{in_one, rows_possible, rows_of}
use Rattle.walks.specs.Plans.{left_first, left_step_first, from_left, fixed_to, allows}
use Rattle.walks.specs.Needs.{iri_at, onward, backward, path_needs, suited, part_needs}
use Rattle.walks.specs.Translated.{each, slot_by, row_by, path_by, end_by, pattern_by, bag_by, Faithful, graph_by, NamesAreFree}
use Rattle.walks.proofs.Gives.{Known, known_less, possible_gives}
use Rattle.walks.proofs.Listed.{in_suited}

-- ---- lists

pub each-++ : {A B : Type 0} (f : A → B) (l m : List A) → each f (l ++ m) ≡ each f l ++ each f m
each-++ f [] m = refl
each-++ f (a ∷ l) m = ap (◌∷◌ (f a)) (each-++ f l m)

cond_each : {C D : Type 0} (φ : C → D) (s t : Bool) (L M : List D) (P Q : List C) → s ≡ t → L ≡ each φ P → M ≡ each φ Q → cond s L M ≡ each φ (cond t P Q)
cond_each φ s true L M P Q e g h = ap (λ b. cond b L M) e ∙ g
cond_each φ s false L M P Q e g h = ap (λ b. cond b L M) e ∙ h

gather_each : {A B C D : Type 0} (f : A → B) (φ : C → D) (g : B → List D) (h : A → List C) (l : List A)
    → ((a : A) → In a l → g (f a) ≡ each φ (h a)) → gather g (each f l) ≡ each φ (gather h l)
gather_each f φ g h [] e = refl
gather_each f φ g h (a ∷ l) e = ap₂ ◌++◌ (e a (inl refl)) (gather_each f φ g h l (λ b i. e b (inr i))) ∙ sym (each-++ φ (h a) (gather h l))

any_each : {A B : Type 0} (f : A → B) (g : B → Bool) (h : A → Bool) (l : List A) → ((a : A) → In a l → g (f a) ≡ h a) → any g (each f l) ≡ any h l
any_each f g h [] e = refl
any_each f g h (a ∷ l) e = ap₂ ◌||◌ (e a (inl refl)) (any_each f g h l (λ b i. e b (inr i)))

total_each : {A B K : Type 0} (s : Scale K) (f : A → B) (g : B → K) (h : A → K) (l : List A) → ((a : A) → In a l → g (f a) ≡ h a) → total s g (each f l) ≡ total s h l
total_each s f g h [] e = refl
total_each s f g h (a ∷ l) e = ap₂ s.sum (e a (inl refl)) (total_each s f g h l (λ b i. e b (inr i)))

-- ---- rows

module _ {A B : Type 0} (f : A → B) where
  slot_merge : (o u : Option A) → slot_by f (merge_at o u) ≡ merge_at (slot_by f o) (slot_by f u)
  slot_merge None u = refl
  slot_merge (Some a) u = refl

  pub row_merge : (a b : Row A) → row_by f (merge a b) ≡ merge (row_by f a) (row_by f b)
  row_merge [] b = refl
  row_merge (o ∷ a) [] = refl
  row_merge (o ∷ a) (u ∷ b) = ap₂ ◌∷◌ (slot_merge o u) (row_merge a b)

  row_single : (v : ℕ) (a : A) → row_by f (single v a) ≡ single v (f a)
  row_single zero a = refl
  row_single (suc v) a = ap (◌∷◌ None) (row_single v a)

  row_end : (e : End A ℕ) (a : A) → row_by f (end_row e a) ≡ end_row (end_by f e) (f a)
  row_end (constant t) a = refl
  row_end (variable v) a = row_single v a

  row_given : (r : Row A) (v : ℕ) → given (row_by f r) v ≡ slot_by f (given r v)
  row_given [] v = refl
  row_given (o ∷ r) zero = refl
  row_given (o ∷ r) (suc v) = row_given r v

  pub fixed_by_lem : (r : Row A) (e : End A ℕ) → fixed_to (row_by f r) (end_by f e) ≡ slot_by f (fixed_to r e)
  fixed_by_lem r (constant t) = refl
  fixed_by_lem r (variable v) = row_given r v

  -- ---- judging

  pub walkable_by : (p : Path A) (l r : Bool) → walkable (path_by f p) l r ≡ walkable p l r
  walkable_by (link u) l r = refl
  walkable_by (negated us) l r = refl
  walkable_by (inverse p) l r = walkable_by p r l
  walkable_by (star p) l r = ap₂ ◌||◌ (ap (λ b. l && b) (walkable_by p true false)) (ap (λ b. r && b) (walkable_by p false true))
  walkable_by (sequence p q) l r = ap₂ ◌||◌ (ap₂ ◌&&◌ (walkable_by p l false) (walkable_by q true r)) (ap₂ ◌&&◌ (walkable_by q false r) (walkable_by p l true))
  walkable_by (alternative p q) l r = ap₂ ◌&&◌ (walkable_by p l r) (walkable_by q l r)

  end_mask_lem : (e : End A ℕ) → end_mask (end_by f e) ≡ end_mask e
  end_mask_lem (constant t) = refl
  end_mask_lem (variable v) = refl

  pub end_fixed : (m : ℕ) (e : End A ℕ) → fixed (member m) (end_by f e) ≡ fixed (member m) e
  end_fixed m (constant t) = refl
  end_fixed m (variable v) = refl

  pub sure_by : (p : Pattern A ℕ) → sure_mask (pattern_by f p) ≡ sure_mask p
  sure_by empty = refl
  sure_by (line e p d) = ap₂ bit_or (end_mask_lem e) (end_mask_lem d)
  sure_by (and p q) = ap₂ bit_or (sure_by p) (sure_by q)
  sure_by (union p q) = ap₂ bit_and (sure_by p) (sure_by q)
  sure_by (opt p q) = sure_by p

  pub judged_by_lem : (p : Pattern A ℕ) (m : ℕ) → judged (pattern_by f p) m ≡ judged p m
  judged_by_lem empty m = refl
  judged_by_lem (line e p d) m = walkable_by p _ _ ∙ ap₂ (walkable p) (end_fixed m e) (end_fixed m d)
  judged_by_lem (and p q) m = ap₂ ◌||◌
      (ap₂ ◌&&◌ (judged_by_lem p m) (ap (λ n. judged (pattern_by f q) (bit_or m n)) (sure_by p) ∙ judged_by_lem q (bit_or m (sure_mask p))))
      (ap₂ ◌&&◌ (judged_by_lem q m) (ap (λ n. judged (pattern_by f p) (bit_or m n)) (sure_by q) ∙ judged_by_lem p (bit_or m (sure_mask q))))
  judged_by_lem (union p q) m = ap₂ ◌&&◌ (ap₂ ◌&&◌ (judged_by_lem p m) (judged_by_lem q m)) (ap₂ eqb (sure_by p) (sure_by q))
  judged_by_lem (opt p q) m = ap₂ ◌&&◌ (judged_by_lem p m) (ap (judged (pattern_by f q)) (sure_by p) ∙ judged_by_lem q (sure_mask p))

  pub left_by : (m : ℕ) (p q : Pattern A ℕ) → left_first m (pattern_by f p) (pattern_by f q) ≡ left_first m p q
  left_by m p q = ap₂ ◌&&◌ (judged_by_lem p m) (ap (λ n. judged (pattern_by f q) (bit_or m n)) (sure_by p) ∙ judged_by_lem q (bit_or m (sure_mask p)))

-- ---- valid rows and bags

module _ {A B : Type 0} (T : Terms A) (S : Terms B) (valid : A → Bool) (f : A → B)
    (apart : (a b : A) → valid a ≡ true → valid b ≡ true → S.same (f a) (f b) ≡ T.same a b) where
  abbrev Ok : A → Type 0
  Ok a = valid a ≡ true

  abbrev pub SlotOk : Option A → Type 0
  SlotOk None = Unit {0}
  SlotOk (Some a) = valid a ≡ true

  abbrev pub RowOk : Row A → Type 0
  RowOk [] = Unit {0}
  RowOk (o ∷ r) = SlotOk o × RowOk r

  abbrev BagOk : {K : Type 0} → Bag A K → Type 0
  BagOk [] = Unit {0}
  BagOk (e ∷ L) = RowOk e.0 × BagOk L

  row_ok : (r : Row A) → ((v : ℕ) → SlotOk (given r v)) → RowOk r
  row_ok [] h = tt
  row_ok (o ∷ r) h = (h zero, row_ok r (λ v. h (suc v)))

  pub given_ok : (r : Row A) (v : ℕ) → RowOk r → SlotOk (given r v)
  given_ok [] v h = tt
  given_ok (o ∷ r) zero h = h.0
  given_ok (o ∷ r) (suc v) h = given_ok r v h.1

  pub merge_ok : (a b : Row A) → RowOk a → RowOk b → RowOk (merge a b)
  merge_ok [] b h k = k
  merge_ok (o ∷ a) [] h k = h
  merge_ok (None ∷ a) (u ∷ b) h k = (k.0, merge_ok a b h.1 k.1)
  merge_ok (Some c ∷ a) (u ∷ b) h k = (h.0, merge_ok a b h.1 k.1)

  single_ok : (v : ℕ) (a : A) → Ok a → RowOk (single v a)
  single_ok zero a h = (h, tt)
  single_ok (suc v) a h = (tt, single_ok v a h)

  end_ok : (e : End A ℕ) (a : A) → Ok a → RowOk (end_row e a)
  end_ok (constant t) a h = tt
  end_ok (variable v) a h = single_ok v a h

  has_by : (a : A) (l : List A) → Ok a → ((b : A) → In b l → Ok b) → has S (f a) (each f l) ≡ has T a l
  has_by a [] h k = refl
  has_by a (b ∷ l) h k = ap₂ ◌||◌ (apart a b h (k b (inl refl))) (has_by a l h (λ c i. k c (inr i)))

  agree_by : (o u : Option A) → SlotOk o → SlotOk u → agree_at S (slot_by f o) (slot_by f u) ≡ agree_at T o u
  agree_by None u h k = refl
  agree_by (Some a) None h k = refl
  agree_by (Some a) (Some b) h k = apart a b h k

  pub compatible_by : (a b : Row A) → RowOk a → RowOk b → compatible S (row_by f a) (row_by f b) ≡ compatible T a b
  compatible_by [] b h k = refl
  compatible_by (o ∷ a) [] h k = refl
  compatible_by (o ∷ a) (u ∷ b) h k = ap₂ ◌&&◌ (agree_by o u h.0 k.0) (compatible_by a b h.1 k.1)

  stands_by : (e : End A ℕ) (a : A) → ((t : A) → In t (term_of_end e) → Ok t) → Ok a → stands S (end_by f e) (f a) ≡ stands T e a
  stands_by (constant t) a h k = apart t a (h t (inl refl)) k
  stands_by (variable v) a h k = refl

  stand_by : (e d : End A ℕ) (a b : A) → ((t : A) → In t (term_of_end e) → Ok t) → ((t : A) → In t (term_of_end d) → Ok t) → Ok a → Ok b
      → stand S (end_by f e) (end_by f d) (f a) (f b) ≡ stand T e d a b
  stand_by e d a b he hd ka kb = ap₂ ◌&&◌ (stands_by e a he ka) (ap₂ ◌&&◌ (stands_by d b hd kb)
      (ap₂ (compatible S) (sym (row_end f e a)) (sym (row_end f d b)) ∙ compatible_by (end_row e a) (end_row d b) (end_ok e a ka) (end_ok d b kb)))

  pub allows_by : (o : Option A) (a : A) → SlotOk o → Ok a → allows S (slot_by f o) (f a) ≡ allows T o a
  allows_by None a h k = refl
  allows_by (Some b) a h k = apart b a h k

  linked_by : (s : A → A → Bool) (t : B → B → Bool) → ((a b : A) → Ok a → Ok b → t (f a) (f b) ≡ s a b)
      → (V : List A) → ((v : A) → In v V → Ok v) → (a b : A) → Ok a → Ok b → linked S t (each f V) (f a) (f b) ≡ linked T s V a b
  linked_by s t h [] all a b ka kb = h a b ka kb
  linked_by s t h (v ∷ V) all a b ka kb =
      let kv = all v (inl refl) in
      ap₂ ◌||◌ (linked_by s t h V (λ c i. all c (inr i)) a b ka kb)
      (ap₂ ◌&&◌ (linked_by s t h V (λ c i. all c (inr i)) a v ka kv) (linked_by s t h V (λ c i. all c (inr i)) v b kv kb))

  module _ {K : Type 0} (s : Scale K) where
    pairs_by : (a : Row A) (u : K) (M : Bag A K) → RowOk a → BagOk M → pairs S s (row_by f a) u (bag_by f M) ≡ bag_by f (pairs T s a u M)
    pairs_by a u [] h k = refl
    pairs_by a u (e ∷ M) h k =
        let rest = pairs_by a u M h k.1 in
        cond_each (λ d. (row_by f d.0, d.1)) _ (compatible T a e.0) _ _ ((merge a e.0, s.product u e.1) ∷ pairs T s a u M) (pairs T s a u M)
        (compatible_by a e.0 h k.0) (ap₂ (λ r l. (r, s.product u e.1) ∷ l) (sym (row_merge f a e.0)) rest) rest

    join_by : (L M : Bag A K) → BagOk L → BagOk M → join S s (bag_by f L) (bag_by f M) ≡ bag_by f (join T s L M)
    join_by [] M h k = refl
    join_by (e ∷ L) M h k = ap₂ ◌++◌ (pairs_by e.0 e.1 M h.0 k) (join_by L M h.1 k)
        ∙ sym (each-++ _ (pairs T s e.0 e.1 M) (join T s L M))

    alone_by : (a : Row A) (M : Bag A K) → RowOk a → BagOk M → alone S s (row_by f a) (bag_by f M) ≡ alone T s a M
    alone_by a [] h k = refl
    alone_by a (e ∷ M) h k = ap₂ (λ t u. not (t && not (s.is_zero e.1)) && u) (compatible_by a e.0 h k.0) (alone_by a M h k.1)

    bare_by : (L M : Bag A K) → BagOk L → BagOk M → bare S s (bag_by f L) (bag_by f M) ≡ bag_by f (bare T s L M)
    bare_by [] M h k = refl
    bare_by (e ∷ L) M h k = ap₂ (λ t u. (row_by f e.0, only s t e.1) ∷ u) (alone_by e.0 M h.0 k) (bare_by L M h.1 k)

-- ---- graphs

module _ {A B : Type 0} (T : Terms A) (x : Exact T) (S : Terms B) (valid : A → Bool) (f : A → B) (G : Graph A) (context : B → List (B × B))
    (n : Faithful T S valid f G context) where
  abbrev pub H : Graph B
  H = graph_by f G context

  abbrev pub Fine : A → Type 0
  Fine a = valid a ≡ true

  abbrev pub AllFine : List A → Type 0
  AllFine l = (t : A) → In t l → valid t ≡ true

  pub fine_left : (l m : List A) → AllFine (l ++ m) → AllFine l
  fine_left l m h t i = h t (in_left t l m i)

  pub fine_right : (l m : List A) → AllFine (l ++ m) → AllFine m
  fine_right l m h t i = h t (in_right t l m i)

  pub pair_by : (p : Path A) → AllFine (terms_in_path p) → (a b : A) → Fine a → Fine b → pair S H (path_by f p) (f a) (f b) ≡ pair T G p a b
  pair_by (link u) h a b ka kb = ap (leads S (f u) (f b)) (n.contexts a ka) ∙ any_each _ _ _ (G.context a) (λ t i.
      ap₂ ◌&&◌ (n.apart u t.0 (h u (inl refl)) (n.predicates a t i)) (n.apart b t.1 kb (n.objects a t i)))
  pair_by (negated us) h a b ka kb = ap (leads_outside S (each f us) (f b)) (n.contexts a ka) ∙ any_each _ _ _ (G.context a) (λ t i.
      ap₂ (λ y z. not y && z) (has_by T S valid f n.apart t.0 us (n.predicates a t i) h) (n.apart b t.1 kb (n.objects a t i)))
  pair_by (inverse p) h a b ka kb = pair_by p h b a kb ka
  pair_by (sequence p q) h a b ka kb = any_each f _ _ G.universe (λ m i.
      ap₂ ◌&&◌ (pair_by p (fine_left (terms_in_path p) (terms_in_path q) h) a m ka (n.terms m i)) (pair_by q (fine_right (terms_in_path p) (terms_in_path q) h) m b (n.terms m i) kb))
  pair_by (alternative p q) h a b ka kb =
      ap₂ ◌||◌ (pair_by p (fine_left (terms_in_path p) (terms_in_path q) h) a b ka kb) (pair_by q (fine_right (terms_in_path p) (terms_in_path q) h) a b ka kb)
  pair_by (star p) h a b ka kb = linked_by T S valid f n.apart _ _
      (λ c d kc kd. ap₂ ◌||◌ (ap₂ ◌&&◌ (n.apart c d kc kd) (has_by T S valid f n.apart c G.universe kc n.terms)) (pair_by p h c d kc kd))
      G.universe n.terms a b ka kb

  pub possible_fine : (p : Pattern A ℕ) (a : Row A) → In a (possible T G p) → RowOk T S valid f n.apart a
  possible_fine p a i = row_ok T S valid f n.apart a (λ v. fine (given a v) (known_less x G _ false (given a v) (λ e. clash e refl) (possible_gives x G p a i v)))
    where
      fine : (o : Option A) → Known T G false o → SlotOk T S valid f n.apart o
      fine None k = tt
      fine (Some c) k = n.terms c (has_in x c G.universe k)

  module _ {K : Type 0} (s : Scale K) where
    weigh_by : (p : Path A) → AllFine (terms_in_path p) → (a b : A) → Fine a → Fine b → weigh S H s (path_by f p) (f a) (f b) ≡ weigh T G s p a b
    weigh_by (link u) h a b ka kb = ap (λ t. only s t s.one) (pair_by (link u) h a b ka kb)
    weigh_by (negated us) h a b ka kb = ap (λ t. only s t s.one) (pair_by (negated us) h a b ka kb)
    weigh_by (inverse p) h a b ka kb = weigh_by p h b a kb ka
    weigh_by (sequence p q) h a b ka kb = total_each s f _ _ G.universe (λ m i.
        ap₂ s.product (weigh_by p (fine_left (terms_in_path p) (terms_in_path q) h) a m ka (n.terms m i)) (weigh_by q (fine_right (terms_in_path p) (terms_in_path q) h) m b (n.terms m i) kb))
    weigh_by (alternative p q) h a b ka kb =
        ap₂ s.sum (weigh_by p (fine_left (terms_in_path p) (terms_in_path q) h) a b ka kb) (weigh_by q (fine_right (terms_in_path p) (terms_in_path q) h) a b ka kb)
    weigh_by (star p) h a b ka kb = ap (λ t. only s t s.one) (pair_by (star p) h a b ka kb)

    bag_fine : (L : Bag A K) → ((a : Row A) → In a (rows_of T s L) → RowOk T S valid f n.apart a) → BagOk T S valid f n.apart L
    bag_fine [] h = tt
    bag_fine (e ∷ L) h = (h e.0 (inl refl), bag_fine L (λ a i. h a (inr i)))

    meaning_fine : (p : Pattern A ℕ) → BagOk T S valid f n.apart (meaning T G s p)
    meaning_fine p = bag_fine (meaning T G s p) (λ a i. possible_fine p a (subst (λ L. In a L) (rows_possible T G s p) i))

    abbrev by : Row A × K → Row B × K
    by e = (row_by f e.0, e.1)

    pub meaning_by : (p : Pattern A ℕ) → AllFine (terms_in p) → meaning S H s (pattern_by f p) ≡ bag_by f (meaning T G s p)
    meaning_by empty h = refl
    meaning_by (line e p d) h = gather_each f by _ _ G.universe (λ a i. gather_each f by _ _ G.universe (λ b j.
        let ka = n.terms a i in
        let kb = n.terms b j in
        let he = fine_left (term_of_end e) (terms_in_path p) (fine_left (term_of_end e ++ terms_in_path p) (term_of_end d) h) in
        let hp = fine_right (term_of_end e) (terms_in_path p) (fine_left (term_of_end e ++ terms_in_path p) (term_of_end d) h) in
        let hd = fine_right (term_of_end e ++ terms_in_path p) (term_of_end d) h in
        cond_each by _ (stand T e d a b && pair T G p a b) _ _ ((merge (end_row e a) (end_row d b), weigh T G s p a b) ∷ []) []
        (ap₂ ◌&&◌ (stand_by T S valid f n.apart e d a b he hd ka kb) (pair_by p hp a b ka kb))
        (ap₂ (λ r w. (r, w) ∷ []) (ap₂ merge (sym (row_end f e a)) (sym (row_end f d b)) ∙ sym (row_merge f (end_row e a) (end_row d b))) (weigh_by p hp a b ka kb))
        refl))
    meaning_by (and p q) h =
        ap₂ (join S s) (meaning_by p (fine_left (terms_in p) (terms_in q) h)) (meaning_by q (fine_right (terms_in p) (terms_in q) h))
        ∙ join_by T S valid f n.apart s _ _ (meaning_fine p) (meaning_fine q)
    meaning_by (union p q) h =
        ap₂ ◌++◌ (meaning_by p (fine_left (terms_in p) (terms_in q) h)) (meaning_by q (fine_right (terms_in p) (terms_in q) h))
        ∙ sym (each-++ by (meaning T G s p) (meaning T G s q))
    meaning_by (opt p q) h =
        ap₂ (λ L M. join S s L M ++ bare S s L M) (meaning_by p (fine_left (terms_in p) (terms_in q) h)) (meaning_by q (fine_right (terms_in p) (terms_in q) h))
        ∙ ap₂ ◌++◌ (join_by T S valid f n.apart s _ _ (meaning_fine p) (meaning_fine q)) (bare_by T S valid f n.apart s _ _ (meaning_fine p) (meaning_fine q))
        ∙ sym (each-++ by (join T s (meaning T G s p) (meaning T G s q)) (bare T s (meaning T G s p) (meaning T G s q)))

  -- ---- possible rows

  merges_of_by : (a : Row A) (M : List (Row A)) → RowOk T S valid f n.apart a → ((b : Row A) → In b M → RowOk T S valid f n.apart b)
      → merges_of S (row_by f a) (each (row_by f) M) ≡ each (row_by f) (merges_of T a M)
  merges_of_by a [] h k = refl
  merges_of_by a (b ∷ M) h k =
      let rest = merges_of_by a M h (λ c i. k c (inr i)) in
      cond_each (row_by f) _ (compatible T a b) _ _ (merge a b ∷ merges_of T a M) (merges_of T a M)
      (compatible_by T S valid f n.apart a b h (k b (inl refl))) (ap₂ ◌∷◌ (sym (row_merge f a b)) rest) rest

  merges_by : (L M : List (Row A)) → ((a : Row A) → In a L → RowOk T S valid f n.apart a) → ((b : Row A) → In b M → RowOk T S valid f n.apart b)
      → merges S (each (row_by f) L) (each (row_by f) M) ≡ each (row_by f) (merges T L M)
  merges_by [] M h k = refl
  merges_by (a ∷ L) M h k =
      ap₂ ◌++◌ (merges_of_by a M (h a (inl refl)) k) (merges_by L M (λ b i. h b (inr i)) k) ∙ sym (each-++ (row_by f) (merges_of T a M) (merges T L M))

  pub possible_by : (p : Pattern A ℕ) → AllFine (terms_in p) → possible S H (pattern_by f p) ≡ each (row_by f) (possible T G p)
  possible_by empty h = refl
  possible_by (line e p d) h = gather_each f (row_by f) _ _ G.universe (λ a i. gather_each f (row_by f) _ _ G.universe (λ b j.
      let he = fine_left (term_of_end e) (terms_in_path p) (fine_left (term_of_end e ++ terms_in_path p) (term_of_end d) h) in
      let hp = fine_right (term_of_end e) (terms_in_path p) (fine_left (term_of_end e ++ terms_in_path p) (term_of_end d) h) in
      let hd = fine_right (term_of_end e ++ terms_in_path p) (term_of_end d) h in
      cond_each (row_by f) _ (stand T e d a b && pair T G p a b) _ _ (merge (end_row e a) (end_row d b) ∷ []) []
      (ap₂ ◌&&◌ (stand_by T S valid f n.apart e d a b he hd (n.terms a i) (n.terms b j)) (pair_by p hp a b (n.terms a i) (n.terms b j)))
      (ap (λ r. r ∷ []) (ap₂ merge (sym (row_end f e a)) (sym (row_end f d b)) ∙ sym (row_merge f (end_row e a) (end_row d b))))
      refl))
  possible_by (and p q) h =
      ap₂ (merges S) (possible_by p (fine_left (terms_in p) (terms_in q) h)) (possible_by q (fine_right (terms_in p) (terms_in q) h))
      ∙ merges_by (possible T G p) (possible T G q) (possible_fine p) (possible_fine q)
  possible_by (union p q) h =
      ap₂ ◌++◌ (possible_by p (fine_left (terms_in p) (terms_in q) h)) (possible_by q (fine_right (terms_in p) (terms_in q) h))
      ∙ sym (each-++ (row_by f) (possible T G p) (possible T G q))
  possible_by (opt p q) h =
      ap₂ (λ L M. merges S L M ++ L) (possible_by p (fine_left (terms_in p) (terms_in q) h)) (possible_by q (fine_right (terms_in p) (terms_in q) h))
      ∙ ap (λ L. L ++ each (row_by f) (possible T G p)) (merges_by (possible T G p) (possible T G q) (possible_fine p) (possible_fine q))
      ∙ sym (each-++ (row_by f) (merges T (possible T G p) (possible T G q)) (possible T G p))

  -- ---- needs

  abbrev pub SlotFine : Option A → Type 0
  SlotFine o = SlotOk T S valid f n.apart o

  abbrev pub RowFine : Row A → Type 0
  RowFine r = RowOk T S valid f n.apart r

  iri_by : (o : Option A) → SlotFine o → iri_at S H (slot_by f o) ≡ each f (iri_at T G o)
  iri_by None h = refl
  iri_by (Some i) h = cond_each f _ (T.is_iri i) (f i ∷ []) [] (i ∷ []) [] (n.iris i h) refl refl

  onward_by : (p : Path A) (o : Option A) → AllFine (terms_in_path p) → SlotFine o → onward S H (path_by f p) (slot_by f o) ≡ each f (onward T G p o)
  onward_by p o h k = gather_each f f _ _ G.universe (λ a i. gather_each f f _ _ G.universe (λ m j.
      cond_each f _ (allows T o a && pair T G p a m) (f m ∷ []) [] (m ∷ []) []
      (ap₂ ◌&&◌ (allows_by T S valid f n.apart o a k (n.terms a i)) (pair_by p h a m (n.terms a i) (n.terms m j))) refl refl))

  backward_by : (p : Path A) (o : Option A) → AllFine (terms_in_path p) → SlotFine o → backward S H (path_by f p) (slot_by f o) ≡ each f (backward T G p o)
  backward_by p o h k = gather_each f f _ _ G.universe (λ b i. gather_each f f _ _ G.universe (λ m j.
      cond_each f _ (allows T o b && pair T G p m b) (f m ∷ []) [] (m ∷ []) []
      (ap₂ ◌&&◌ (allows_by T S valid f n.apart o b k (n.terms b i)) (pair_by p h m b (n.terms m j) (n.terms b i))) refl refl))

  -- what comes out of the universe is valid
  inner_fine : (t : A → A → Bool) (m : A) → In m (gather (λ a. gather (λ c. cond (t a c) (c ∷ []) []) G.universe) G.universe) → valid m ≡ true
  inner_fine t m i =
      let s = in_gather _ G.universe m i in
      let u = in_gather _ G.universe m s.2 in
      n.terms m (subst (λ z. In z G.universe) (sym (in_one (t s.0 u.0) u.0 m u.2).1) u.1)

  path_needs_by : (p : Path A) (l r : Bool) (o u : Option A) → AllFine (terms_in_path p) → SlotFine o → SlotFine u
      → path_needs S H l r (path_by f p) (slot_by f o) (slot_by f u) ≡ each f (path_needs T G l r p o u)
  path_needs_by (link v) l r o u h ko ku = iri_by o ko
  path_needs_by (negated vs) l r o u h ko ku = iri_by o ko
  path_needs_by (inverse p) l r o u h ko ku = path_needs_by p r l u o h ku ko
  path_needs_by (alternative p q) l r o u h ko ku =
      ap₂ ◌++◌ (path_needs_by p l r o u (fine_left (terms_in_path p) (terms_in_path q) h) ko ku) (path_needs_by q l r o u (fine_right (terms_in_path p) (terms_in_path q) h) ko ku)
      ∙ sym (each-++ f (path_needs T G l r p o u) (path_needs T G l r q o u))
  path_needs_by (sequence p q) l r o u h ko ku =
      let hp = fine_left (terms_in_path p) (terms_in_path q) h in
      let hq = fine_right (terms_in_path p) (terms_in_path q) h in
      cond_each f _ (left_step_first l r p q) _ _ _ _ (ap₂ ◌&&◌ (walkable_by f p l false) (walkable_by f q true r))
      (ap₂ ◌++◌ (path_needs_by p l false o None hp ko tt)
      (ap (gather _) (onward_by p o hp ko)
      ∙ gather_each f f _ _ (onward T G p o) (λ m i. path_needs_by q true r (Some m) u hq (inner_fine _ m i) ku))
      ∙ sym (each-++ f (path_needs T G l false p o None) _))
      (ap₂ ◌++◌ (path_needs_by q false r None u hq tt ku)
      (ap (gather _) (backward_by q u hq ku)
      ∙ gather_each f f _ _ (backward T G q u) (λ m i. path_needs_by p l true o (Some m) hp ko (inner_fine _ m i)))
      ∙ sym (each-++ f (path_needs T G false r q None u) _))
  path_needs_by (star p) l r o u h ko ku = cond_each f _ (from_left l p) _ _ _ _ (ap (λ b. l && b) (walkable_by f p true false))
      (ap (gather _) (onward_by (star p) o h ko)
      ∙ gather_each f f _ _ (onward T G (star p) o) (λ m i. path_needs_by p true false (Some m) None h (inner_fine _ m i) tt))
      (ap (gather _) (backward_by (star p) u h ku)
      ∙ gather_each f f _ _ (backward T G (star p) u) (λ m i. path_needs_by p false true None (Some m) h tt (inner_fine _ m i)))

  suited_by : (r : Row A) (L : List (Row A)) → RowFine r → ((a : Row A) → In a L → RowFine a) → suited S H (row_by f r) (each (row_by f) L) ≡ each (row_by f) (suited T G r L)
  suited_by r [] h k = refl
  suited_by r (a ∷ L) h k =
      let rest = suited_by r L h (λ b i. k b (inr i)) in
      cond_each (row_by f) _ (compatible T r a) _ _ (a ∷ suited T G r L) (suited T G r L)
      (compatible_by T S valid f n.apart r a h (k a (inl refl))) (ap (◌∷◌ (row_by f a)) rest) rest

  pub fixed_fine : (r : Row A) (e : End A ℕ) → RowFine r → AllFine (term_of_end e) → SlotFine (fixed_to r e)
  fixed_fine r (constant t) k h = h t (inl refl)
  fixed_fine r (variable v) k h = given_ok T S valid f n.apart r v k

  suited_fine : (r : Row A) (p : Pattern A ℕ) (a : Row A) → In a (suited T G r (possible T G p)) → RowFine a
  suited_fine r p a i = possible_fine p a (in_suited T G r (possible T G p) a i).0

  part_needs_by : (p : Pattern A ℕ) (m : ℕ) (r : Row A) → AllFine (terms_in p) → RowFine r → part_needs S H m (pattern_by f p) (row_by f r) ≡ each f (part_needs T G m p r)
  part_needs_by empty m r h k = refl
  part_needs_by (line e p d) m r h k =
      let he = fine_left (term_of_end e) (terms_in_path p) (fine_left (term_of_end e ++ terms_in_path p) (term_of_end d) h) in
      let hp = fine_right (term_of_end e) (terms_in_path p) (fine_left (term_of_end e ++ terms_in_path p) (term_of_end d) h) in
      let hd = fine_right (term_of_end e ++ terms_in_path p) (term_of_end d) h in
      ap₂ (λ y z. path_needs S H y z (path_by f p) (fixed_to (row_by f r) (end_by f e)) (fixed_to (row_by f r) (end_by f d))) (end_fixed f m e) (end_fixed f m d)
      ∙ ap₂ (path_needs S H (fixed (member m) e) (fixed (member m) d) (path_by f p)) (fixed_by_lem f r e) (fixed_by_lem f r d)
      ∙ path_needs_by p (fixed (member m) e) (fixed (member m) d) (fixed_to r e) (fixed_to r d) hp (fixed_fine r e k he) (fixed_fine r d k hd)
  part_needs_by (and p q) m r h k =
      let hp = fine_left (terms_in p) (terms_in q) h in
      let hq = fine_right (terms_in p) (terms_in q) h in
      cond_each f _ (left_first m p q) _ _ _ _ (left_by f m p q)
      (ap₂ ◌++◌ (part_needs_by p m r hp k)
      (ap₂ (λ y L. gather (λ a. part_needs S H (bit_or m y) (pattern_by f q) (merge (row_by f r) a)) (suited S H (row_by f r) L)) (sure_by f p) (possible_by p hp)
      ∙ ap (gather _) (suited_by r (possible T G p) k (possible_fine p))
      ∙ gather_each (row_by f) f _ _ (suited T G r (possible T G p)) (λ a i.
      ap (part_needs S H (bit_or m (sure_mask p)) (pattern_by f q)) (sym (row_merge f r a))
      ∙ part_needs_by q (bit_or m (sure_mask p)) (merge r a) hq (merge_ok T S valid f n.apart r a k (suited_fine r p a i))))
      ∙ sym (each-++ f (part_needs T G m p r) _))
      (ap₂ ◌++◌ (part_needs_by q m r hq k)
      (ap₂ (λ y L. gather (λ a. part_needs S H (bit_or m y) (pattern_by f p) (merge (row_by f r) a)) (suited S H (row_by f r) L)) (sure_by f q) (possible_by q hq)
      ∙ ap (gather _) (suited_by r (possible T G q) k (possible_fine q))
      ∙ gather_each (row_by f) f _ _ (suited T G r (possible T G q)) (λ a i.
      ap (part_needs S H (bit_or m (sure_mask q)) (pattern_by f p)) (sym (row_merge f r a))
      ∙ part_needs_by p (bit_or m (sure_mask q)) (merge r a) hp (merge_ok T S valid f n.apart r a k (suited_fine r q a i))))
      ∙ sym (each-++ f (part_needs T G m q r) _))
  part_needs_by (union p q) m r h k =
      ap₂ ◌++◌ (part_needs_by p m r (fine_left (terms_in p) (terms_in q) h) k) (part_needs_by q m r (fine_right (terms_in p) (terms_in q) h) k)
      ∙ sym (each-++ f (part_needs T G m p r) (part_needs T G m q r))
  part_needs_by (opt p q) m r h k =
      let hp = fine_left (terms_in p) (terms_in q) h in
      let hq = fine_right (terms_in p) (terms_in q) h in
      ap₂ ◌++◌ (part_needs_by p m r hp k)
      (ap₂ (λ y L. gather (λ a. part_needs S H y (pattern_by f q) a) (suited S H (row_by f r) L)) (sure_by f p) (possible_by p hp)
      ∙ ap (gather _) (suited_by r (possible T G p) k (possible_fine p))
      ∙ gather_each (row_by f) f _ _ (suited T G r (possible T G p)) (λ a i. part_needs_by q (sure_mask p) a hq (suited_fine r p a i)))
      ∙ sym (each-++ f (part_needs T G m p r) _)

pub names_are_free : {A B : Type 0} → NamesAreFree A B
names_are_free T x S valid f G context n p h = record {
  verdict = judged_by_lem f p;
  bags = λ k. meaning_by T x S valid f G context n (codes k) p h;
  rows = possible_by T x S valid f G context n p h;
  needs = part_needs_by T x S valid f G context n p 0 [] h tt;
}
