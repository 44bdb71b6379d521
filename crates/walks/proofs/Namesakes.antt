-- Names that lead back to their terms: what is translated back is what it was, and a translated question has too many where the question has.
use Rattle.std.proofs.Common.{◌≡◌, ℕ, ◌<◌, Bool, true, false, ◌&&◌, List, [], ◌∷◌, ◌++◌, length, suc, Some, None, Option, sym, refl, ap, ◌∙◌, subst, ap₂, inl, inr, arith}
use lib.Bits.{bit_or}
use Rattle.std.proofs.lemmas.Bool.{and_parts, and_from}
use Rattle.grammar.specs.Syntax.{Path, link, negated, inverse, star, sequence, alternative, End, constant, variable, Pattern, empty, line, and, union, opt}
use Rattle.grammar.specs.Bounded.{fixed}
use Rattle.grammar.specs.Masks.{member}
use Rattle.semantics.specs.Terms.{Terms, Exact, In}
use Rattle.semantics.specs.Rows.{Row}
use Rattle.semantics.specs.Graphs.{Graph, Closed, pair}
use Rattle.semantics.specs.Meaning.{possible}
use Rattle.semantics.specs.Webs.{term_of_end, terms_in_path, terms_in}
use Rattle.semantics.proofs.Lists.{has_in}
use Rattle.semantics.proofs.Links.{pair_ends}
use Rattle.walks.specs.Plans.{fixed_to, Asking, path, part, Leads, to_inverse, to_left_choice, to_right_choice, to_left_step, from_left_step, to_right_step, from_right_step, star_onward as onwards, star_backward as backwards, to_path, to_left_side, from_left_side, to_right_side, from_right_side, to_left_union, to_right_union, to_outside, to_option, Reached, here, there}
use Rattle.walks.specs.Crowds.{Apart, Crowd, Crowded, rows, pairs, onward, backward, TooMany}
use Rattle.walks.specs.Promises.{whole}
use Rattle.walks.specs.Translated.{each, slot_by, row_by, path_by, end_by, pattern_by, Faithful, graph_by, CrowdsAreTranslated}
use Rattle.walks.proofs.Translating.{each-++, SlotOk, RowOk, walkable_by, sure_by, left_by, end_fixed, fixed_by_lem, row_merge, given_ok, merge_ok, compatible_by, allows_by, fine_left, fine_right, pair_by, possible_fine, possible_by}

-- ---- lists

pub in_each : {A B : Type 0} (f : A → B) (l : List A) (a : A) → In a l → In (f a) (each f l)
in_each f [] a i = elim i [ ]
in_each f (b ∷ l) a (inl i) = inl (ap f i)
in_each f (b ∷ l) a (inr i) = inr (in_each f l a i)

pub each_in : {A B : Type 0} (f : A → B) (l : List A) (b : B) → In b (each f l) → (a : A) × In a l × (b ≡ f a)
each_in f [] b i = elim i [ ]
each_in f (c ∷ l) b (inl i) = (c, inl refl, i)
each_in f (c ∷ l) b (inr i) = let r = each_in f l b i in (r.0, inr r.1, r.2)

length_each : {A B : Type 0} (f : A → B) (l : List A) → length (each f l) ≡ length l
length_each f [] = refl
length_each f (a ∷ l) = ap suc (length_each f l)

apart_each : {A B : Type 0} (f : A → B) (P : A → Type 0) → ((a b : A) → P a → P b → f a ≡ f b → a ≡ b)
    → (l : List A) → ((a : A) → In a l → P a) → Apart l → Apart (each f l)
apart_each f P h [] k d = tt
apart_each f P h (a ∷ l) k d = (
  λ i. (let r = each_in f l (f a) i in d.0 (subst (λ z. In z l) (sym (h a r.0 (k a (inl refl)) (k r.0 (inr r.1)) r.2)) r.1)),
  apart_each f P h l (λ b i. k b (inr i)) d.1,
)

-- what is made of each is made back
pub each_back : {A B : Type 0} (f : A → B) (g : B → A) (l : List A) → ((a : A) → In a l → g (f a) ≡ a) → each g (each f l) ≡ l
each_back f g [] h = refl
each_back f g (a ∷ l) h = ap₂ ◌∷◌ (h a (inl refl)) (each_back f g l (λ b i. h b (inr i)))

crowd_by : {A B : Type 0} (f : A → B) (P : A → Type 0) (Q : B → Type 0) → ((a b : A) → P a → P b → f a ≡ f b → a ≡ b)
    → ((a : A) → P a → Q (f a)) → Crowd P → Crowd Q
crowd_by f P Q h k c = record {
  members = each f c.members;
  apart = apart_each f P h c.members c.each c.apart;
  many = subst (λ n. 256 < n) (sym (length_each f c.members)) c.many;
  each = λ b i. (let r = each_in f c.members b i in subst Q (sym r.2) (k r.0 (c.each r.0 r.1)));
}

-- a crowd has a member
member_of : {A : Type 0} (P : A → Type 0) → Crowd P → (a : A) × P a
member_of {A} P c = go c.members c.many c.each
  where
    go : (l : List A) → 256 < length l → ((a : A) → In a l → P a) → (a : A) × P a
    go [] h k = absurd (omega arith)
    go (a ∷ l) h k = (a, k a (inl refl))

-- ---- questions

module _ {A B : Type 0} (f : A → B) where
  path_terms : (p : Path A) → terms_in_path (path_by f p) ≡ each f (terms_in_path p)
  path_terms (link u) = refl
  path_terms (negated us) = refl
  path_terms (inverse p) = path_terms p
  path_terms (star p) = path_terms p
  path_terms (sequence p q) = ap₂ ◌++◌ (path_terms p) (path_terms q) ∙ sym (each-++ f (terms_in_path p) (terms_in_path q))
  path_terms (alternative p q) = ap₂ ◌++◌ (path_terms p) (path_terms q) ∙ sym (each-++ f (terms_in_path p) (terms_in_path q))

  end_terms : (e : End A ℕ) → term_of_end (end_by f e) ≡ each f (term_of_end e)
  end_terms (constant t) = refl
  end_terms (variable v) = refl

  -- the terms of a translated question
  pub terms_by : (p : Pattern A ℕ) → terms_in (pattern_by f p) ≡ each f (terms_in p)
  terms_by empty = refl
  terms_by (line e p d) =
      ap₂ ◌++◌ (ap₂ ◌++◌ (end_terms e) (path_terms p) ∙ sym (each-++ f (term_of_end e) (terms_in_path p))) (end_terms d)
      ∙ sym (each-++ f (term_of_end e ++ terms_in_path p) (term_of_end d))
  terms_by (and p q) = ap₂ ◌++◌ (terms_by p) (terms_by q) ∙ sym (each-++ f (terms_in p) (terms_in q))
  terms_by (union p q) = ap₂ ◌++◌ (terms_by p) (terms_by q) ∙ sym (each-++ f (terms_in p) (terms_in q))
  terms_by (opt p q) = ap₂ ◌++◌ (terms_by p) (terms_by q) ∙ sym (each-++ f (terms_in p) (terms_in q))

left_of : {A : Type 0} (P : A → Type 0) (l m : List A) → ((t : A) → In t (l ++ m) → P t) → (t : A) → In t l → P t
left_of P [] m h t i = elim i [ ]
left_of P (a ∷ l) m h t (inl i) = h t (inl i)
left_of P (a ∷ l) m h t (inr i) = left_of P l m (λ u j. h u (inr j)) t i

right_of : {A : Type 0} (P : A → Type 0) (l m : List A) → ((t : A) → In t (l ++ m) → P t) → (t : A) → In t m → P t
right_of P [] m h t i = h t i
right_of P (a ∷ l) m h t i = right_of P l m (λ u j. h u (inr j)) t i

module _ {A B : Type 0} (f : A → B) (g : B → A) where
  abbrev Back : A → Type 0
  Back t = g (f t) ≡ t

  path_back : (p : Path A) → ((t : A) → In t (terms_in_path p) → Back t) → path_by g (path_by f p) ≡ p
  path_back (link u) h = ap link (h u (inl refl))
  path_back (negated us) h = ap negated (each_back f g us h)
  path_back (inverse p) h = ap inverse (path_back p h)
  path_back (star p) h = ap star (path_back p h)
  path_back (sequence p q) h = ap₂ sequence
      (path_back p (left_of Back (terms_in_path p) (terms_in_path q) h)) (path_back q (right_of Back (terms_in_path p) (terms_in_path q) h))
  path_back (alternative p q) h = ap₂ alternative
      (path_back p (left_of Back (terms_in_path p) (terms_in_path q) h)) (path_back q (right_of Back (terms_in_path p) (terms_in_path q) h))

  end_back : (e : End A ℕ) → ((t : A) → In t (term_of_end e) → Back t) → end_by g (end_by f e) ≡ e
  end_back (constant t) h = ap constant (h t (inl refl))
  end_back (variable v) h = refl

  -- a question is what it was
  pub pattern_back : (p : Pattern A ℕ) → ((t : A) → In t (terms_in p) → g (f t) ≡ t) → pattern_by g (pattern_by f p) ≡ p
  pattern_back empty h = refl
  pattern_back (line e p d) h =
      let he = left_of Back (term_of_end e) (terms_in_path p) (left_of Back (term_of_end e ++ terms_in_path p) (term_of_end d) h) in
      let hp = right_of Back (term_of_end e) (terms_in_path p) (left_of Back (term_of_end e ++ terms_in_path p) (term_of_end d) h) in
      let hd = right_of Back (term_of_end e ++ terms_in_path p) (term_of_end d) h in
      ap₂ (λ a b. line a (path_by g (path_by f p)) b) (end_back e he) (end_back d hd) ∙ ap (λ q. line e q d) (path_back p hp)
  pattern_back (and p q) h = ap₂ and (pattern_back p (left_of Back (terms_in p) (terms_in q) h)) (pattern_back q (right_of Back (terms_in p) (terms_in q) h))
  pattern_back (union p q) h = ap₂ union
      (pattern_back p (left_of Back (terms_in p) (terms_in q) h)) (pattern_back q (right_of Back (terms_in p) (terms_in q) h))
  pattern_back (opt p q) h = ap₂ opt (pattern_back p (left_of Back (terms_in p) (terms_in q) h)) (pattern_back q (right_of Back (terms_in p) (terms_in q) h))

-- ---- sub-questions

module _ {A B : Type 0} {T : Terms A} (x : Exact T) {S : Terms B} (y : Exact S) (valid : A → Bool) (f : A → B) (G : Graph A) (context : B → List (B × B))
    (n : Faithful T S valid f G context) (c : Closed T G) where
  abbrev H : Graph B
  H = graph_by f G context

  abbrev SlotFine : Option A → Type 0
  SlotFine o = SlotOk T S valid f n.apart o

  abbrev RowFine : Row A → Type 0
  RowFine r = RowOk T S valid f n.apart r

  abbrev Fine : List A → Type 0
  Fine l = (t : A) → In t l → valid t ≡ true

  abbrev asking_by : Asking A → Asking B
  asking_by (path l r p o u) = path l r (path_by f p) (slot_by f o) (slot_by f u)
  asking_by (part m p r) = part m (pattern_by f p) (row_by f r)

  abbrev AskFine : Asking A → Type 0
  AskFine (path l r p o u) = Fine (terms_in_path p) × (SlotFine o × SlotFine u)
  AskFine (part m p r) = Fine (terms_in p) × RowFine r

  lefts : (l m : List A) → Fine (l ++ m) → Fine l
  lefts l m h = fine_left T x S valid f G context n l m h

  rights : (l m : List A) → Fine (l ++ m) → Fine m
  rights l m h = fine_right T x S valid f G context n l m h

  from_valid : (p : Path A) (a b : A) → pair T G p a b ≡ true → valid a ≡ true
  from_valid p a b e = n.terms a (has_in x a G.universe (pair_ends x G c p a b e).0)

  to_valid : (p : Path A) (a b : A) → pair T G p a b ≡ true → valid b ≡ true
  to_valid p a b e = n.terms b (has_in x b G.universe (pair_ends x G c p a b e).1)

  pair_too : (p : Path A) → Fine (terms_in_path p) → (a b : A) → pair T G p a b ≡ true → pair S H (path_by f p) (f a) (f b) ≡ true
  pair_too p h a b e = pair_by T x S valid f G context n p h a b (from_valid p a b e) (to_valid p a b e) ∙ e

  possible_too : (p : Pattern A ℕ) → Fine (terms_in p) → (a : Row A) → In a (possible T G p) → In (row_by f a) (possible S H (pattern_by f p))
  possible_too p h a i = subst (λ L. In (row_by f a) L) (sym (possible_by T x S valid f G context n p h)) (in_each (row_by f) (possible T G p) a i)

  row_valid : (p : Pattern A ℕ) (a : Row A) → In a (possible T G p) → RowFine a
  row_valid p a i = possible_fine T x S valid f G context n p a i

  fixed_valid : (r : Row A) (e : End A ℕ) → RowFine r → Fine (term_of_end e) → SlotFine (fixed_to r e)
  fixed_valid r (constant t) k h = h t (inl refl)
  fixed_valid r (variable v) k h = given_ok T S valid f n.apart r v k

  leads_by : {q r : Asking A} → Leads T G q r → AskFine q → Leads S H (asking_by q) (asking_by r) × AskFine r
  leads_by to_inverse h = (to_inverse, (h.0, (h.1.1, h.1.0)))
  leads_by (to_left_choice {p = p} {q = q}) h = (to_left_choice, (lefts (terms_in_path p) (terms_in_path q) h.0, h.1))
  leads_by (to_right_choice {p = p} {q = q}) h = (to_right_choice, (rights (terms_in_path p) (terms_in_path q) h.0, h.1))
  leads_by (to_left_step {l = l} {r = r} {p = p} {q = q} e) h =
      (to_left_step (ap₂ ◌&&◌ (walkable_by f p l false) (walkable_by f q true r) ∙ e), (lefts (terms_in_path p) (terms_in_path q) h.0, (h.1.0, tt)))
  leads_by (from_left_step {l = l} {r = r} {p = p} {q = q} {x = o} e a m i j) h =
      let hp = lefts (terms_in_path p) (terms_in_path q) h.0 in (
        from_left_step (ap₂ ◌&&◌ (walkable_by f p l false) (walkable_by f q true r) ∙ e) (f a) (f m)
            (allows_by T S valid f n.apart o a h.1.0 (from_valid p a m j) ∙ i) (pair_too p hp a m j),
        (rights (terms_in_path p) (terms_in_path q) h.0, (to_valid p a m j, h.1.1)),
      )
  leads_by (to_right_step {l = l} {r = r} {p = p} {q = q} e) h =
      (to_right_step (ap₂ ◌&&◌ (walkable_by f p l false) (walkable_by f q true r) ∙ e), (rights (terms_in_path p) (terms_in_path q) h.0, (tt, h.1.1)))
  leads_by (from_right_step {l = l} {r = r} {p = p} {q = q} {y = u} e m b i j) h =
      let hq = rights (terms_in_path p) (terms_in_path q) h.0 in (
        from_right_step (ap₂ ◌&&◌ (walkable_by f p l false) (walkable_by f q true r) ∙ e) (f m) (f b)
            (allows_by T S valid f n.apart u b h.1.1 (to_valid q m b j) ∙ i) (pair_too q hq m b j),
        (lefts (terms_in_path p) (terms_in_path q) h.0, (h.1.0, from_valid q m b j)),
      )
  leads_by (onwards {l = l} {p = p} {x = o} e a m i j) h = (
    onwards (ap (λ b. l && b) (walkable_by f p true false) ∙ e) (f a) (f m)
        (allows_by T S valid f n.apart o a h.1.0 (from_valid (star p) a m j) ∙ i) (pair_too (star p) h.0 a m j),
    (h.0, (to_valid (star p) a m j, tt)),
  )
  leads_by (backwards {l = l} {p = p} {y = u} e m b i j) h = (
    backwards (ap (λ b. l && b) (walkable_by f p true false) ∙ e) (f m) (f b)
        (allows_by T S valid f n.apart u b h.1.1 (to_valid (star p) m b j) ∙ i) (pair_too (star p) h.0 m b j),
    (h.0, (tt, from_valid (star p) m b j)),
  )
  leads_by (to_path {m = m} {e = e} {f = d} {p = p} {r = r}) h =
      let he = lefts (term_of_end e) (terms_in_path p) (lefts (term_of_end e ++ terms_in_path p) (term_of_end d) h.0) in
      let hp = rights (term_of_end e) (terms_in_path p) (lefts (term_of_end e ++ terms_in_path p) (term_of_end d) h.0) in
      let hd = rights (term_of_end e ++ terms_in_path p) (term_of_end d) h.0 in (
        subst (λ z. Leads S H (part m (line (end_by f e) (path_by f p) (end_by f d)) (row_by f r)) z)
            (ap₂ (λ s t. path s t (path_by f p) (fixed_to (row_by f r) (end_by f e)) (fixed_to (row_by f r) (end_by f d))) (end_fixed f m e) (end_fixed f m d)
            ∙ ap₂ (λ s t. path (fixed (member m) e) (fixed (member m) d) (path_by f p) s t) (fixed_by_lem f r e) (fixed_by_lem f r d))
            to_path,
        (hp, (fixed_valid r e h.1 he, fixed_valid r d h.1 hd)),
      )
  leads_by (to_left_side {m = m} {p = p} {q = q} e) h = (to_left_side (left_by f m p q ∙ e), (lefts (terms_in p) (terms_in q) h.0, h.1))
  leads_by (from_left_side {m = m} {p = p} {q = q} {r = r} e a i j) h =
      let ha = row_valid p a i in (
        subst (λ z. Leads S H (part m (and (pattern_by f p) (pattern_by f q)) (row_by f r)) z)
            (ap₂ (λ s t. part (bit_or m s) (pattern_by f q) t) (sure_by f p) (sym (row_merge f r a)))
            (from_left_side (left_by f m p q ∙ e) (row_by f a) (possible_too p (lefts (terms_in p) (terms_in q) h.0) a i)
            (compatible_by T S valid f n.apart r a h.1 ha ∙ j)),
        (rights (terms_in p) (terms_in q) h.0, merge_ok T S valid f n.apart r a h.1 ha),
      )
  leads_by (to_right_side {m = m} {p = p} {q = q} e) h = (to_right_side (left_by f m p q ∙ e), (rights (terms_in p) (terms_in q) h.0, h.1))
  leads_by (from_right_side {m = m} {p = p} {q = q} {r = r} e a i j) h =
      let ha = row_valid q a i in (
        subst (λ z. Leads S H (part m (and (pattern_by f p) (pattern_by f q)) (row_by f r)) z)
            (ap₂ (λ s t. part (bit_or m s) (pattern_by f p) t) (sure_by f q) (sym (row_merge f r a)))
            (from_right_side (left_by f m p q ∙ e) (row_by f a) (possible_too q (rights (terms_in p) (terms_in q) h.0) a i)
            (compatible_by T S valid f n.apart r a h.1 ha ∙ j)),
        (lefts (terms_in p) (terms_in q) h.0, merge_ok T S valid f n.apart r a h.1 ha),
      )
  leads_by (to_left_union {p = p} {q = q}) h = (to_left_union, (lefts (terms_in p) (terms_in q) h.0, h.1))
  leads_by (to_right_union {p = p} {q = q}) h = (to_right_union, (rights (terms_in p) (terms_in q) h.0, h.1))
  leads_by (to_outside {p = p} {q = q}) h = (to_outside, (lefts (terms_in p) (terms_in q) h.0, h.1))
  leads_by (to_option {m = m} {p = p} {q = q} {r = r} a i j) h =
      let ha = row_valid p a i in (
        subst (λ z. Leads S H (part m (opt (pattern_by f p) (pattern_by f q)) (row_by f r)) z)
            (ap (λ s. part s (pattern_by f q) (row_by f a)) (sure_by f p))
            (to_option (row_by f a) (possible_too p (lefts (terms_in p) (terms_in q) h.0) a i) (compatible_by T S valid f n.apart r a h.1 ha ∙ j)),
        (rights (terms_in p) (terms_in q) h.0, ha),
      )

  reached_by : {q r : Asking A} → Reached T G q r → AskFine q → Reached S H (asking_by q) (asking_by r) × AskFine r
  reached_by here h = (here, h)
  reached_by (there s r) h = let l = leads_by s h in let k = reached_by r l.1 in (there l.0 k.0, k.1)

  -- ---- crowds

  back_to : (a b : A) → valid a ≡ true → valid b ≡ true → f a ≡ f b → a ≡ b
  back_to a b va vb e = x.tells a b (sym (n.apart a b va vb) ∙ ap (λ z. S.same (f a) z) (sym e) ∙ y.told (f a))

  slot_back : (o u : Option A) → SlotFine o → SlotFine u → slot_by f o ≡ slot_by f u → o ≡ u
  slot_back None None h k e = refl
  slot_back None (Some b) h k e = absurd (cc)
  slot_back (Some a) None h k e = absurd (cc)
  slot_back (Some a) (Some b) h k e = ap Some (back_to a b h k (cc))

  row_back : (a b : Row A) → RowFine a → RowFine b → row_by f a ≡ row_by f b → a ≡ b
  row_back [] [] h k e = refl
  row_back [] (u ∷ b) h k e = absurd (cc)
  row_back (o ∷ a) [] h k e = absurd (cc)
  row_back (o ∷ a) (u ∷ b) h k e = ap₂ ◌∷◌ (slot_back o u h.0 k.0 (cc)) (row_back a b h.1 k.1 (cc))

  crowded_by : {q : Asking A} → Crowded T G q → AskFine q → Crowded S H (asking_by q)
  crowded_by (rows {p = p} {r = r} d) h = rows (crowd_by (row_by f) _ _
      (λ a b i j e. row_back a b (row_valid p a i.0) (row_valid p b j.0) e)
      (λ a i. (possible_too p h.0 a i.0, compatible_by T S valid f n.apart r a h.1 (row_valid p a i.0) ∙ i.1)) d)
  crowded_by (pairs {p = p} {x = o} {y = u} d) h = pairs (crowd_by (λ t. (f t.0, f t.1)) _ _
      (λ a b i j e. ap₂ (λ s t. (s, t)) (back_to a.0 b.0 (from_valid p a.0 a.1 i.2) (from_valid p b.0 b.1 j.2) (ap (λ z. z.0) e))
      (back_to a.1 b.1 (to_valid p a.0 a.1 i.2) (to_valid p b.0 b.1 j.2) (ap (λ z. z.1) e)))
      (λ a i. (
        allows_by T S valid f n.apart o a.0 h.1.0 (from_valid p a.0 a.1 i.2) ∙ i.0,
        allows_by T S valid f n.apart u a.1 h.1.1 (to_valid p a.0 a.1 i.2) ∙ i.1,
        pair_too p h.0 a.0 a.1 i.2,
      )) d)
  crowded_by (onward {l = l} {p = p} {x = o} e a i d) h =
      let one = member_of _ d in
      onward (ap (λ b. l && b) (walkable_by f p true false) ∙ e) (f a) (allows_by T S valid f n.apart o a h.1.0 (from_valid (star p) a one.0 one.1) ∙ i)
      (crowd_by f _ _ (λ s t j k g. back_to s t (to_valid (star p) a s j) (to_valid (star p) a t k) g) (λ m j. pair_too (star p) h.0 a m j) d)
  crowded_by (backward {l = l} {p = p} {y = u} e b i d) h =
      let one = member_of _ d in
      backward (ap (λ b. l && b) (walkable_by f p true false) ∙ e) (f b) (allows_by T S valid f n.apart u b h.1.1 (to_valid (star p) one.0 b one.1) ∙ i)
      (crowd_by f _ _ (λ s t j k g. back_to s t (from_valid (star p) s b j) (from_valid (star p) t b k) g) (λ m j. pair_too (star p) h.0 m b j) d)

  crowds_by : (p : Pattern A ℕ) → Fine (terms_in p) → TooMany T G (whole p) → TooMany S H (whole (pattern_by f p))
  crowds_by p h t = let r = reached_by t.reached (h, tt) in record { asking = asking_by t.asking; reached = r.0; crowded = crowded_by t.crowded r.1 }

-- ---- back

module _ {A B : Type 0} {T : Terms A} (x : Exact T) {S : Terms B} (y : Exact S) (valid : A → Bool) (f : A → B) (back : B → A)
    (leads : (a : A) → valid a ≡ true → back (f a) ≡ a) (G : Graph A) (context : B → List (B × B)) (n : Faithful T S valid f G context)
    (d : Closed S (graph_by f G context)) where
  -- a name of something valid
  abbrev pub named : B → Bool
  named b = valid (back b) && S.same (f (back b)) b

  is_named : (a : A) → valid a ≡ true → named (f a) ≡ true
  is_named a v = and_from _ _ (ap valid (leads a v) ∙ v) (ap (λ z. S.same (f z) (f a)) (leads a v) ∙ y.told (f a))

  of_valid : (b : B) → named b ≡ true → valid (back b) ≡ true
  of_valid b h = (and_parts (valid (back b)) _ h).0

  is_name : (b : B) → named b ≡ true → f (back b) ≡ b
  is_name b h = y.tells _ b (and_parts (valid (back b)) _ h).1

  named_in : (b : B) → In b (each f G.universe) → named b ≡ true
  named_in b i = let r = each_in f G.universe b i in subst (λ z. named z ≡ true) (sym r.2) (is_named r.0 (n.terms r.0 r.1))

  -- what a context has comes of the graph's
  said : (b : B) (t : B × B) → In t (context b) → (named t.0 ≡ true) × (named t.1 ≡ true)
  said b t i =
      let v = named_in b (has_in y b (each f G.universe) (d.subjects b t i)) in
      let e : context b ≡ each (λ t. (f t.0, f t.1)) (G.context (back b)) = ap context (sym (is_name b v)) ∙ n.contexts (back b) (of_valid b v) in
      let r = each_in (λ t. (f t.0, f t.1)) (G.context (back b)) t (subst (λ l. In t l) e i) in (
        subst (λ z. named z ≡ true) (sym (ap (λ z. z.0) r.2)) (is_named r.0.0 (n.predicates (back b) r.0 r.1)),
        subst (λ z. named z ≡ true) (sym (ap (λ z. z.1) r.2)) (is_named r.0.1 (n.objects (back b) r.0 r.1)),
      )

  pub faithful_back : Faithful S T named back (graph_by f G context) G.context
  faithful_back = record {
    apart = λ a b h k. sym (n.apart (back a) (back b) (of_valid a h) (of_valid b k)) ∙ ap₂ S.same (is_name a h) (is_name b k);
    iris = λ a h. sym (n.iris (back a) (of_valid a h)) ∙ ap S.is_iri (is_name a h);
    terms = named_in;
    predicates = λ b t i. (said b t i).0;
    objects = λ b t i. (said b t i).1;
    contexts = λ b h.
        sym (ap (each (λ t. (back t.0, back t.1))) (ap context (sym (is_name b h)) ∙ n.contexts (back b) (of_valid b h))
        ∙ each_back (λ t. (f t.0, f t.1)) (λ t. (back t.0, back t.1)) (G.context (back b)) (λ t i.
        ap₂ (λ s u. (s, u)) (leads t.0 (n.predicates (back b) t i)) (leads t.1 (n.objects (back b) t i))));
  }

  graph_back : graph_by back (graph_by f G context) G.context ≡ G
  graph_back = ap (λ u. record { context = G.context; universe = u }) (each_back f back G.universe (λ a i. leads a (n.terms a i)))

  names_valid : (p : Pattern A ℕ) → ((t : A) → In t (terms_in p) → valid t ≡ true) → (b : B) → In b (terms_in (pattern_by f p)) → named b ≡ true
  names_valid p h b i =
      let r = each_in f (terms_in p) b (subst (λ l. In b l) (terms_by f p) i) in
      subst (λ z. named z ≡ true) (sym r.2) (is_named r.0 (h r.0 r.1))

  crowds_back : (p : Pattern A ℕ) → ((t : A) → In t (terms_in p) → valid t ≡ true)
      → TooMany S (graph_by f G context) (whole (pattern_by f p)) → TooMany T G (whole p)
  crowds_back p h t =
      subst (λ K. TooMany T K (whole p)) graph_back
      (subst (λ q. TooMany T (graph_by back (graph_by f G context) G.context) (whole q)) (pattern_back f back p (λ t i. leads t (h t i)))
      (crowds_by y x named back (graph_by f G context) G.context faithful_back d (pattern_by f p) (names_valid p h) t))

pub crowds_are_translated : {A B : Type 0} → CrowdsAreTranslated A B
crowds_are_translated T x S y valid f back leads G context n c d p h =
    (crowds_by x y valid f G context n c p h, crowds_back x y valid f back leads G context n d p h)
