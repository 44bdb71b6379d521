-- With more documents a walk reaches all that it reached; and what it needs is in the universe.
use Rattle.std.proofs.Common.{◌≡◌, ℕ, Bool, true, false, cond, ◌&&◌, List, [], ◌∷◌, ◌++◌, Option, sym, refl, ap, ◌∙◌, subst, inl, inr}
use Rattle.std.proofs.lemmas.Bool.{and_parts, and_from, or_left, or_right, or_cases}
use Rattle.grammar.specs.Syntax.{Path, link, negated, inverse, star, sequence, alternative, End, constant, variable, Pattern, empty, line, and, union, opt}
use Rattle.semantics.specs.Terms.{Terms, Exact, In, has}
use Rattle.semantics.specs.Rows.{Row, given, merge, compatible}
use Rattle.semantics.specs.Graphs.{Graph, Closed, pair}
use Rattle.semantics.specs.Meaning.{end_row, stand, merges_of, merges, possible}
use Rattle.semantics.specs.Webs.{term_of_end, terms_in_path, terms_in, graph_of}
use Rattle.semantics.proofs.Lists.{clash, any_in, any_from, in_left, in_right, in_either, in_gather, gather_in, has_in, in_has}
use Rattle.semantics.proofs.Links.{pair_ends, star_onward, star_here, star_after}
use Rattle.semantics.proofs.Possible.{in_one, in_merges}
use Rattle.semantics.proofs.RowLaws.{given_merge}
use Rattle.semantics.proofs.Universes.{web_closed}
use Rattle.walks.specs.Plans.{fixed_to, Asking, path, part, Leads, to_inverse, to_left_choice, to_right_choice, to_left_step, from_left_step, to_right_step, from_right_step, star_onward as onwards, star_backward as backwards, to_path, to_left_side, from_left_side, to_right_side, from_right_side, to_left_union, to_right_union, to_outside, to_option, Reached, here, there, Reads, for_link, for_negated, Needed}
use Rattle.walks.specs.Crowds.{Crowded, rows, pairs, onward, backward}
use Rattle.walks.specs.Promises.{whole, Grows, KeptByGrowth, WalksOnlyGrow, NeedsAreMet}
use Rattle.walks.proofs.Crowding.{crowd_more}
use Rattle.walks.proofs.Gives.{Known, known_less, known_merge, possible_gives}

pub one_in : {C : Type 0} (t : Bool) (d c : C) → t ≡ true → c ≡ d → In c (cond t (d ∷ []) [])
one_in true d c e i = inl i
one_in false d c e i = clash e refl

module _ {A : Type 0} (T : Terms A) where
  merges_of_in : (a : Row A) (M : List (Row A)) (b c : Row A) → In b M → compatible T a b ≡ true → c ≡ merge a b → In c (merges_of T a M)
  merges_of_in a [] b c i e j = elim i [ ]
  merges_of_in a (d ∷ M) b c (inl i) e j =
      subst (λ t. In c (cond t (merge a d ∷ merges_of T a M) (merges_of T a M))) (sym e ∙ ap (compatible T a) i) (inl (j ∙ ap (merge a) i))
  merges_of_in a (d ∷ M) b c (inr i) e j = further (compatible T a d) (merges_of_in a M b c i e j)
    where
      further : (t : Bool) → In c (merges_of T a M) → In c (cond t (merge a d ∷ merges_of T a M) (merges_of T a M))
      further true h = inr h
      further false h = h

  pub merges_in : (L M : List (Row A)) (a b c : Row A) → In a L → In b M → compatible T a b ≡ true → c ≡ merge a b → In c (merges T L M)
  merges_in [] M a b c i j e h = elim i [ ]
  merges_in (d ∷ L) M a b c (inl i) j e h =
      in_left c (merges_of T d M) (merges T L M) (merges_of_in d M b c j (ap (λ z. compatible T z b) (sym i) ∙ e) (h ∙ ap (λ z. merge z b) i))
  merges_in (d ∷ L) M a b c (inr i) j e h = in_right c (merges_of T d M) (merges T L M) (merges_in L M a b c i j e h)

module _ {A : Type 0} {T : Terms A} (x : Exact T) (G H : Graph A) (cG : Closed T G) (cH : Closed T H) (g : Grows T G H) where
  in_more : (a : A) → In a G.universe → In a H.universe
  in_more a i = has_in x a H.universe (g.terms a (in_has x a G.universe i))

  pub pair_more : (p : Path A) (a b : A) → pair T G p a b ≡ true → pair T H p a b ≡ true
  pair_more (link u) a b h = let r = any_in _ (G.context a) h in any_from _ (H.context a) r.0 (g.contexts a r.0 r.1) r.2
  pair_more (negated us) a b h = let r = any_in _ (G.context a) h in any_from _ (H.context a) r.0 (g.contexts a r.0 r.1) r.2
  pair_more (inverse p) a b h = pair_more p b a h
  pair_more (sequence p q) a b h =
      let r = any_in _ G.universe h in
      let s = and_parts (pair T G p a r.0) (pair T G q r.0 b) r.2 in
      any_from _ H.universe r.0 (in_more r.0 r.1) (and_from _ _ (pair_more p a r.0 s.0) (pair_more q r.0 b s.1))
  pair_more (alternative p q) a b h =
      elim (or_cases (pair T G p a b) (pair T G q a b) h) [
        | inl e ↦ or_left _ _ (pair_more p a b e)
        | inr e ↦ or_right (pair T H p a b) _ (pair_more q a b e)
      ]
  pair_more (star p) a b h =
      star_onward x G p (λ z. pair T H (star p) a z ≡ true) (λ u v e z. star_after x H cH p a u v z (pair_more p u v e)) a b h
      (star_here x H p a (g.terms a (pair_ends x G cG (star p) a b h).0))

  pub possible_more : (p : Pattern A ℕ) (a : Row A) → In a (possible T G p) → In a (possible T H p)
  possible_more empty a i = i
  possible_more (line e p f) a i =
      let s = in_gather _ G.universe a i in
      let t = in_gather _ G.universe a s.2 in
      let c = in_one (stand T e f s.0 t.0 && pair T G p s.0 t.0) (merge (end_row e s.0) (end_row f t.0)) a t.2 in
      let d = and_parts (stand T e f s.0 t.0) (pair T G p s.0 t.0) c.0 in
      gather_in _ H.universe s.0 a (in_more s.0 s.1) (gather_in _ H.universe t.0 a (in_more t.0 t.1)
      (one_in (stand T e f s.0 t.0 && pair T H p s.0 t.0) _ a (and_from _ _ d.0 (pair_more p s.0 t.0 d.1)) c.1))
  possible_more (and p q) a i =
      let s = in_merges T (possible T G p) (possible T G q) a i in
      merges_in T (possible T H p) (possible T H q) s.0 s.1 a (possible_more p s.0 s.2) (possible_more q s.1 s.3) s.4 s.5
  possible_more (union p q) a i =
      elim (in_either a (possible T G p) (possible T G q) i) [
        | inl j ↦ in_left a _ _ (possible_more p a j)
        | inr j ↦ in_right a (possible T H p) _ (possible_more q a j)
      ]
  possible_more (opt p q) a i =
      elim (in_either a (merges T (possible T G p) (possible T G q)) (possible T G p) i) [
        | inl j ↦ (let s = in_merges T (possible T G p) (possible T G q) a j in
            in_left a _ _ (merges_in T (possible T H p) (possible T H q) s.0 s.1 a (possible_more p s.0 s.2) (possible_more q s.1 s.3) s.4 s.5))
        | inr j ↦ in_right a (merges T (possible T H p) (possible T H q)) _ (possible_more p a j)
      ]

  leads_more : {q r : Asking A} → Leads T G q r → Leads T H q r
  leads_more to_inverse = to_inverse
  leads_more to_left_choice = to_left_choice
  leads_more to_right_choice = to_right_choice
  leads_more (to_left_step e) = to_left_step e
  leads_more (from_left_step {p = p} e a m f h) = from_left_step e a m f (pair_more p a m h)
  leads_more (to_right_step e) = to_right_step e
  leads_more (from_right_step {q = q} e m b f h) = from_right_step e m b f (pair_more q m b h)
  leads_more (onwards {p = p} e a m f h) = onwards e a m f (pair_more (star p) a m h)
  leads_more (backwards {p = p} e m b f h) = backwards e m b f (pair_more (star p) m b h)
  leads_more to_path = to_path
  leads_more (to_left_side e) = to_left_side e
  leads_more (from_left_side {p = p} e a i h) = from_left_side e a (possible_more p a i) h
  leads_more (to_right_side e) = to_right_side e
  leads_more (from_right_side {q = q} e a i h) = from_right_side e a (possible_more q a i) h
  leads_more to_left_union = to_left_union
  leads_more to_right_union = to_right_union
  leads_more to_outside = to_outside
  leads_more (to_option {p = p} a i h) = to_option a (possible_more p a i) h

  reached_more : {q r : Asking A} → Reached T G q r → Reached T H q r
  reached_more here = here
  reached_more (there s r) = there (leads_more s) (reached_more r)

  crowded_more : {q : Asking A} → Crowded T G q → Crowded T H q
  crowded_more (rows {p = p} c) = rows (crowd_more _ _ (λ a h. (possible_more p a h.0, h.1)) c)
  crowded_more (pairs {p = p} c) = pairs (crowd_more _ _ (λ a h. (h.0, h.1, pair_more p a.0 a.1 h.2)) c)
  crowded_more (onward {p = p} e a f c) = onward e a f (crowd_more _ _ (λ m h. pair_more (star p) a m h) c)
  crowded_more (backward {p = p} e b f c) = backward e b f (crowd_more _ _ (λ m h. pair_more (star p) m b h) c)

  pub kept_by_growth : (p : Pattern A ℕ) → KeptByGrowth T G H p
  kept_by_growth p = record {
    rows = possible_more p;
    reached = λ q. reached_more;
    needs = λ i n. record { asking = n.asking; reached = reached_more n.reached; reads = n.reads; iri = n.iri };
    crowds = λ n. record { asking = n.asking; reached = reached_more n.reached; crowded = crowded_more n.crowded };
  }

pub walks_only_grow : {A : Type 0} → WalksOnlyGrow A
walks_only_grow T x G H cG cH g p = kept_by_growth x G H cG cH g p

-- ---- what is fixed is in the universe

module _ {A : Type 0} {T : Terms A} (x : Exact T) (G : Graph A) (c : Closed T G) where
  abbrev Inside : Option A → Type 0
  Inside o = Known T G false o

  abbrev RowInside : Row A → Type 0
  RowInside r = (v : ℕ) → Inside (given r v)

  abbrev AllIn : List A → Type 0
  AllIn l = (t : A) → In t l → has T t G.universe ≡ true

  abbrev AskInside : Asking A → Type 0
  AskInside (path l r p o u) = Inside o × Inside u
  AskInside (part m p r) = AllIn (terms_in p) × RowInside r

  end_inside : (r : Row A) (e : End A ℕ) → AllIn (term_of_end e) → RowInside r → Inside (fixed_to r e)
  end_inside r (constant t) h k = h t (inl refl)
  end_inside r (variable v) h k = k v

  possible_inside : (p : Pattern A ℕ) (a : Row A) → In a (possible T G p) → RowInside a
  possible_inside p a i v = known_less x G _ false (given a v) (λ e. clash e refl) (possible_gives x G p a i v)

  merge_inside : (a b : Row A) → RowInside a → RowInside b → RowInside (merge a b)
  merge_inside a b k l v = subst Inside (sym (given_merge a b v)) (known_merge x G false false (given a v) (given b v) (k v) (l v))

  leads_inside : {q r : Asking A} → Leads T G q r → AskInside q → AskInside r
  leads_inside to_inverse h = (h.1, h.0)
  leads_inside to_left_choice h = h
  leads_inside to_right_choice h = h
  leads_inside (to_left_step e) h = (h.0, refl)
  leads_inside (from_left_step {p = p} e a m f i) h = ((pair_ends x G c p a m i).1, h.1)
  leads_inside (to_right_step e) h = (refl, h.1)
  leads_inside (from_right_step {q = q} e m b f i) h = (h.0, (pair_ends x G c q m b i).0)
  leads_inside (onwards {p = p} e a m f i) h = ((pair_ends x G c (star p) a m i).1, refl)
  leads_inside (backwards {p = p} e m b f i) h = (refl, (pair_ends x G c (star p) m b i).0)
  leads_inside (to_path {e = e} {f = f} {p = p} {r = r}) h = (
    end_inside r e (λ t i. h.0 t (in_left t (term_of_end e ++ terms_in_path p) (term_of_end f) (in_left t (term_of_end e) (terms_in_path p) i))) h.1,
    end_inside r f (λ t i. h.0 t (in_right t (term_of_end e ++ terms_in_path p) (term_of_end f) i)) h.1,
  )
  leads_inside (to_left_side {p = p} {q = q} e) h = (λ t i. h.0 t (in_left t (terms_in p) (terms_in q) i), h.1)
  leads_inside (from_left_side {p = p} {q = q} {r = r} e a i z) h =
      (λ t j. h.0 t (in_right t (terms_in p) (terms_in q) j), merge_inside r a h.1 (possible_inside p a i))
  leads_inside (to_right_side {p = p} {q = q} e) h = (λ t i. h.0 t (in_right t (terms_in p) (terms_in q) i), h.1)
  leads_inside (from_right_side {p = p} {q = q} {r = r} e a i z) h =
      (λ t j. h.0 t (in_left t (terms_in p) (terms_in q) j), merge_inside r a h.1 (possible_inside q a i))
  leads_inside (to_left_union {p = p} {q = q}) h = (λ t i. h.0 t (in_left t (terms_in p) (terms_in q) i), h.1)
  leads_inside (to_right_union {p = p} {q = q}) h = (λ t i. h.0 t (in_right t (terms_in p) (terms_in q) i), h.1)
  leads_inside (to_outside {p = p} {q = q}) h = (λ t i. h.0 t (in_left t (terms_in p) (terms_in q) i), h.1)
  leads_inside (to_option {p = p} {q = q} a i z) h = (λ t j. h.0 t (in_right t (terms_in p) (terms_in q) j), possible_inside p a i)

  reached_inside : {q r : Asking A} → Reached T G q r → AskInside q → AskInside r
  reached_inside here h = h
  reached_inside (there s r) h = reached_inside r (leads_inside s h)

  reads_inside : {q : Asking A} {i : A} → Reads q i → AskInside q → has T i G.universe ≡ true
  reads_inside for_link h = h.0
  reads_inside for_negated h = h.0

  pub needed_inside : (p : Pattern A ℕ) → AllIn (terms_in p) → (i : A) → Needed T G (whole p) i → has T i G.universe ≡ true
  needed_inside p h i n = reads_inside n.reads (reached_inside n.reached (h, λ v. refl))

pub needs_are_met : {A : Type 0} → NeedsAreMet A
needs_are_met T x shelf p V v i n =
    needed_inside x (graph_of T shelf V) (web_closed x shelf p V v) p (λ t j. v.all t (inl (in_has x t (terms_in p) j))) i n
