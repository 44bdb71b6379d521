-- The shelf of a record.
use Rattle.std.proofs.Common.{◌≡◌, ℕ, Bool, true, false, cond, ◌⊎◌, List, [], ◌∷◌, ◌++◌, sym, refl, ap, ◌∙◌, subst, inl, inr}
use mathlib.Core.Path.{fun_ext}
use Rattle.std.proofs.lemmas.Bool.{or_right}
use Rattle.grammar.specs.Syntax.{Pattern}
use Rattle.semantics.specs.Terms.{Terms, Exact, In, gather, has}
use Rattle.semantics.specs.Webs.{Triple, terms_in, terms_listed, Met, Universe}
use Rattle.semantics.proofs.Lists.{by_test, in_left, in_right, in_either, in_gather, gather_in, has_in, in_has}
use Rattle.semantics.proofs.Universes.{unique, unique_distinct, unique_has, web_closed}
use Rattle.walks.specs.Plans.{Needed}
use Rattle.walks.specs.Promises.{whole}
use Rattle.walks.specs.Shelves.{Told, triples, lists_of, shelf_by, shelf_graph, AgreeOn, Settled, SameShelf, EveryShelfHasItsUniverse, RecordSuffices, RecordDecides, ShelvesGrow, Course, begins, looks, LookedUpStaysNeeded}
use Rattle.walks.proofs.Complete.{shelf_grows, walk_is_complete}
use Rattle.walks.proofs.Growth.{kept_by_growth}

pub same_shelf : {A : Type 0} → SameShelf A
same_shelf T recorded v w agree = fun_ext (λ i. by_test (has T i recorded)
    (λ e. ap (λ t. cond (has T i recorded) (triples t) []) (agree i e))
    (λ e. ap (λ b. cond b (triples (v i)) []) e ∙ sym (ap (λ b. cond b (triples (w i)) []) e)))

module _ {A : Type 0} (T : Terms A) where
  -- a shelf beside a Web that tells the same where it is recorded
  shelf_part : (recorded : List A) (v w : A → Told A) → AgreeOn T recorded v w → (i : A) → (shelf_by T v recorded i ≡ lists_of w i) ⊎ (shelf_by T v recorded i ≡ [])
  shelf_part recorded v w agree i = by_test (has T i recorded)
      (λ e. inl (ap (λ b. cond b (triples (v i)) []) e ∙ ap triples (agree i e)))
      (λ e. inr (ap (λ b. cond b (triples (v i)) []) e))

  settled_list : (recorded : List A) (v w : A → Told A) → AgreeOn T recorded v w → (i : A) → Settled T v recorded i → shelf_by T v recorded i ≡ lists_of w i
  settled_list recorded v w agree i h = ap (λ b. cond b (triples (v i)) []) h.0 ∙ ap triples (agree i h.0)

pub record_suffices : {A : Type 0} → RecordSuffices A
record_suffices T x k l tells recorded p o U V u v h m =
    walk_is_complete T x k l (lists_of tells) (shelf_by T tells recorded) (shelf_part T recorded tells tells (λ i e. refl)) p o U V u v
    (λ i n. settled_list T recorded tells tells (λ i e. refl) i (h i n)) m

pub record_decides : {A : Type 0} → RecordDecides A
record_decides T x k l v w recorded p o U W V u z s h agree m =
    record_suffices T x k l v recorded p o U V u s h m
    ∙ sym (walk_is_complete T x k l (lists_of w) (shelf_by T v recorded) (shelf_part T recorded v w agree) p o W V z s
    (λ i n. settled_list T recorded v w agree i (h i n)) m)

-- ---- its universe

module _ {A : Type 0} {T : Terms A} (x : Exact T) (tells : A → Told A) (recorded : List A) (p : Pattern A ℕ) where
  abbrev shelf : A → List (Triple A)
  shelf i = shelf_by T tells recorded i

  abbrev page : A → List A
  page i = cond (T.is_iri i) (terms_listed (shelf i)) []

  abbrev listed : List A
  listed = terms_in p ++ gather page recorded

  -- the terms of the question and of the recorded lists
  abbrev pub shelf_terms : List A
  shelf_terms = unique x listed

  on_page : (l : List A) (y : A) (b : Bool) → b ≡ true → In y l → In y (cond b l [])
  on_page l y b e j = subst (λ b. In y (cond b l [])) (sym e) j

  off_page : (l : List A) (y : A) (b : Bool) → In y (cond b l []) → (b ≡ true) × In y l
  off_page l y true j = (refl, j)
  off_page l y false j = elim j [ ]

  in_it : (y : A) → Met T shelf p y → In y listed
  in_it y (inl h) = in_left y (terms_in p) (gather page recorded) (has_in x y (terms_in p) h)
  in_it y (inr h) = by_test (has T h.0 recorded)
      (λ e. in_right y (terms_in p) (gather page recorded) (gather_in page recorded h.0 y (has_in x h.0 recorded e)
      (on_page (terms_listed (shelf h.0)) y (T.is_iri h.0) h.1 (has_in x y (terms_listed (shelf h.0)) h.2))))
      (λ e. elim (has_in x y [] (subst (λ b. has T y (terms_listed (cond b (triples (tells h.0)) [])) ≡ true) e h.2)) [ ])

  out : (y : A) → In y (terms_in p) ⊎ In y (gather page recorded) → Met T shelf p y
  out y (inl i) = inl (in_has x y (terms_in p) i)
  out y (inr i) =
      let r = in_gather page recorded y i in
      let s = off_page (terms_listed (shelf r.0)) y (T.is_iri r.0) r.2 in
      inr (r.0, s.0, in_has x y (terms_listed (shelf r.0)) s.1)

  pub shelf_universe : Universe T (shelf_by T tells recorded) p shelf_terms
  shelf_universe = record {
    distinct = unique_distinct x listed;
    all = λ y m. unique_has x y listed ∙ in_has x y listed (in_it y m);
    none_else = λ y h. out y (in_either y (terms_in p) (gather page recorded) (has_in x y listed (sym (unique_has x y listed) ∙ h)));
  }

pub every_shelf_has_its_universe : {A : Type 0} → EveryShelfHasItsUniverse A
every_shelf_has_its_universe T x tells recorded p = (shelf_terms x tells recorded p, shelf_universe x tells recorded p)

-- ---- while it grows

pub shelves_grow : {A : Type 0} → ShelvesGrow A
shelves_grow T x less more part_of p V U v u = shelf_grows x more less part_of p U V u v

pub looked_up_stays_needed : {A : Type 0} → LookedUpStaysNeeded A
looked_up_stays_needed {A} T x tells p earlier looked c V v i h = go looked c V v i h
  where
    more : (i : A) (r : List A) (j : A) → (shelf_by T tells r j ≡ shelf_by T tells (i ∷ r) j) ⊎ (shelf_by T tells r j ≡ [])
    more i r j = by_test (has T j r)
        (λ e. inl (ap (λ b. cond b (triples (tells j)) []) (e ∙ sym (or_right (T.same j i) (has T j r) e))))
        (λ e. inr (ap (λ b. cond b (triples (tells j)) []) e))

    later : (r : List A) (j : A) (W : List A) → Universe T (shelf_by T tells r) p W → (V : List A) → Universe T (shelf_by T tells (j ∷ r)) p V
        → (i : A) → Needed T (shelf_graph T tells r W) (whole p) i → Needed T (shelf_graph T tells (j ∷ r) V) (whole p) i
    later r j W w V v i n =
        (kept_by_growth x (shelf_graph T tells r W) (shelf_graph T tells (j ∷ r) V) (web_closed x (shelf_by T tells r) p W w) (web_closed x (shelf_by T tells (j ∷ r)) p V v)
        (shelves_grow T x (shelf_by T tells r) (shelf_by T tells (j ∷ r)) (more j r) p W V w v) p).needs i n

    go : (looked : List A) → Course T tells p earlier looked → (V : List A) → Universe T (shelf_by T tells (looked ++ earlier)) p V
        → (i : A) → In i looked → Needed T (shelf_graph T tells (looked ++ earlier) V) (whole p) i
    go [] begins V v i h = elim h [ ]
    go (j ∷ is) (looks {V = W} c w n) V v i (inl h) = subst (λ z. Needed T (shelf_graph T tells (j ∷ (is ++ earlier)) V) (whole p) z) (sym h) (later (is ++ earlier) j W w V v j n)
    go (j ∷ is) (looks {V = W} c w n) V v i (inr h) = later (is ++ earlier) j W w V v i (go is c W w i h)
