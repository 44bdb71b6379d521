-- Documents beside those that are needed change nothing: over more documents a walk reaches no more than it reached.
use Rattle.std.proofs.Common.{◌≡◌, ℕ, Bool, true, false, cond, ◌&&◌, [], ◌++◌, None, Option, sym, refl, ap, ◌∙◌, inl, inr}
use lib.Bits.{bit_or}
use Rattle.std.proofs.lemmas.Bool.{and_parts, and_from, or_left}
use Rattle.weights.specs.Codes.{presence}
use Rattle.weights.proofs.Fairness.{lawful_codes_are_fair}
use Rattle.weights.specs.Presences.{presence_is_lawful}
use Rattle.grammar.specs.Syntax.{Path, star, End, Pattern, empty, line, and, union, opt}
use Rattle.grammar.specs.Bounded.{fixed}
use Rattle.grammar.specs.Masks.{member}
use Rattle.grammar.specs.Judged.{sure_mask, judged}
use Rattle.grammar.specs.Walkable.{walkable}
use Rattle.semantics.specs.Terms.{Terms, Exact, In, has}
use Rattle.semantics.specs.Rows.{Row, merge, compatible}
use Rattle.semantics.specs.Graphs.{Graph, Closed, pair}
use Rattle.semantics.specs.Meaning.{end_row, stands, stand, merges, possible}
use Rattle.semantics.specs.Webs.{terms_in, term_of_end, terms_in_path, about, graph_of}
use Rattle.semantics.proofs.Lists.{clash, by_test, or_second, in_left, in_right, in_either, in_gather, gather_in, has_in}
use Rattle.semantics.proofs.Links.{pair_ends}
use Rattle.semantics.proofs.Paths.{pair_same}
use Rattle.semantics.proofs.Universes.{web_closed}
use Rattle.semantics.proofs.Possible.{in_one, in_merges}
use Rattle.semantics.proofs.RowLaws.{compatible_order, compatible_first, compatible_second, compatible_grouping, merge_order}
use Rattle.walks.specs.Plans.{left_first, from_left, fixed_to, allows, Asking, path, part, Leads, to_inverse, to_left_choice, to_right_choice, to_left_step, from_left_step, to_right_step, from_right_step, star_onward as onwards, star_backward as backwards, to_path, to_left_side, from_left_side, to_right_side, from_right_side, to_left_union, to_right_union, to_outside, to_option, Reached, here, there}
use Rattle.walks.specs.Crowds.{Crowded, rows, pairs, onward, backward}
use Rattle.walks.specs.Promises.{whole, KeptByGrowth, NothingElseMatters}
use Rattle.walks.proofs.Crowding.{crowd_more}
use Rattle.walks.proofs.Gives.{Known, Gives, gives_merge, gives_nothing, possible_gives}
use Rattle.walks.proofs.Growth.{one_in, merges_in, kept_by_growth}
use Rattle.walks.proofs.Paths.{Agreed, walk_path}
use Rattle.walks.proofs.Complete.{end_allowed, end_known, shelf_less, question_terms, shelf_grows, walk_is_complete}

-- G has all that H has, and what the plan over H reads is there as it is in G
module _ {A : Type 0} {T : Terms A} (x : Exact T) (G H : Graph A) (cG : Closed T G) (cH : Closed T H)
    (more : (a : A) → has T a H.universe ≡ true → has T a G.universe ≡ true) where
  abbrev TermsIn : Pattern A ℕ → Type 0
  TermsIn p = (t : A) → In t (terms_in p) → has T t H.universe ≡ true

  -- what holds of every sub-question that the plan over H reaches
  abbrev Stands : Asking A → Type 0
  Stands (path l r p o u) = (walkable p l r ≡ true) × Known T H l o × Known T H r u × Agreed T G H (path l r p o u)
  Stands (part m p r) = (judged p m ≡ true) × TermsIn p × Gives x H m r × Agreed T G H (part m p r)

  same_pair : (p : Path A) (l r : Bool) (o u : Option A) → Stands (path l r p o u) → (a b : A) → allows T o a ≡ true → allows T u b ≡ true → pair T G p a b ≡ pair T H p a b
  same_pair p l r o u s a b fa fb =
      let f = lawful_codes_are_fair presence presence_is_lawful in
      pair_same x G H cG cH f p a b (walk_path x G H cG cH more f p l r o u s.0 s.1 s.2 s.3 a b fa fb)

  -- ---- the parts of a sub-question stand too

  left_terms : (p q : Pattern A ℕ) → ((t : A) → In t (terms_in p ++ terms_in q) → has T t H.universe ≡ true) → TermsIn p
  left_terms p q n t i = n t (in_left t (terms_in p) (terms_in q) i)

  right_terms : (p q : Pattern A ℕ) → ((t : A) → In t (terms_in p ++ terms_in q) → has T t H.universe ≡ true) → TermsIn q
  right_terms p q n t i = n t (in_right t (terms_in p) (terms_in q) i)

  first_side : {m : ℕ} {p q : Pattern A ℕ} {r : Row A} → Stands (part m (and p q) r) → left_first m p q ≡ true → Stands (part m p r)
  first_side {m} {p} {q} s e = ((and_parts (judged p m) (judged q (bit_or m (sure_mask p))) e).0, left_terms p q s.1, s.2, λ y c. s.3 y (there (to_left_side e) c))

  then_right : {m : ℕ} {p q : Pattern A ℕ} {r : Row A} → Stands (part m (and p q) r) → left_first m p q ≡ true → (a : Row A) → In a (possible T H p) → compatible T r a ≡ true → Stands (part (bit_or m (sure_mask p)) q (merge r a))
  then_right {m} {p} {q} {r} s e a i z =
      ((and_parts (judged p m) (judged q (bit_or m (sure_mask p))) e).1, right_terms p q s.1, gives_merge x H m (sure_mask p) r a s.2 (possible_gives x H p a i), λ y c. s.3 y (there (from_left_side e a i z) c))

  second_side : {m : ℕ} {p q : Pattern A ℕ} {r : Row A} → Stands (part m (and p q) r) → left_first m p q ≡ false → Stands (part m q r)
  second_side {m} {p} {q} s e =
      ((and_parts (judged q m) (judged p (bit_or m (sure_mask q))) (or_second (judged p m && judged q (bit_or m (sure_mask p))) _ s.0 e)).0, right_terms p q s.1, s.2, λ y c. s.3 y (there (to_right_side e) c))

  then_left : {m : ℕ} {p q : Pattern A ℕ} {r : Row A} → Stands (part m (and p q) r) → left_first m p q ≡ false → (a : Row A) → In a (possible T H q) → compatible T r a ≡ true → Stands (part (bit_or m (sure_mask q)) p (merge r a))
  then_left {m} {p} {q} {r} s e a i z =
      ((and_parts (judged q m) (judged p (bit_or m (sure_mask q))) (or_second (judged p m && judged q (bit_or m (sure_mask p))) _ s.0 e)).1, left_terms p q s.1, gives_merge x H m (sure_mask q) r a s.2 (possible_gives x H q a i), λ y c. s.3 y (there (from_right_side e a i z) c))

  left_union : {m : ℕ} {p q : Pattern A ℕ} {r : Row A} → Stands (part m (union p q) r) → Stands (part m p r)
  left_union {m} {p} {q} s = ((and_parts (judged p m) (judged q m) (and_parts (judged p m && judged q m) _ s.0).0).0, left_terms p q s.1, s.2, λ y c. s.3 y (there to_left_union c))

  right_union : {m : ℕ} {p q : Pattern A ℕ} {r : Row A} → Stands (part m (union p q) r) → Stands (part m q r)
  right_union {m} {p} {q} s = ((and_parts (judged p m) (judged q m) (and_parts (judged p m && judged q m) _ s.0).0).1, right_terms p q s.1, s.2, λ y c. s.3 y (there to_right_union c))

  outside : {m : ℕ} {p q : Pattern A ℕ} {r : Row A} → Stands (part m (opt p q) r) → Stands (part m p r)
  outside {m} {p} {q} s = ((and_parts (judged p m) (judged q (sure_mask p)) s.0).0, left_terms p q s.1, s.2, λ y c. s.3 y (there to_outside c))

  option : {m : ℕ} {p q : Pattern A ℕ} {r : Row A} → Stands (part m (opt p q) r) → (a : Row A) → In a (possible T H p) → compatible T r a ≡ true → Stands (part (sure_mask p) q a)
  option {m} {p} {q} s a i z = ((and_parts (judged p m) (judged q (sure_mask p)) s.0).1, right_terms p q s.1, possible_gives x H p a i, λ y c. s.3 y (there (to_option a i z) c))

  a_line : {m : ℕ} {e d : End A ℕ} {p : Path A} {r : Row A} → Stands (part m (line e p d) r) → Stands (path (fixed (member m) e) (fixed (member m) d) p (fixed_to r e) (fixed_to r d))
  a_line {m} {e} {d} {p} {r} s = (
    s.0,
    end_known x H m r e (λ t i. s.1 t (in_left t (term_of_end e ++ terms_in_path p) (term_of_end d) (in_left t (term_of_end e) (terms_in_path p) i))) s.2,
    end_known x H m r d (λ t i. s.1 t (in_right t (term_of_end e ++ terms_in_path p) (term_of_end d) i)) s.2,
    λ y c. s.3 y (there to_path c),
  )

  -- ---- rows

  after_first : (r a b : Row A) → compatible T r a ≡ true → compatible T a b ≡ true → compatible T r (merge a b) ≡ true → compatible T (merge r a) b ≡ true
  after_first r a b e h i = (and_parts (compatible T r a) (compatible T (merge r a) b) (compatible_grouping x r a b ∙ and_from _ _ h i)).1

  line_less : (m : ℕ) (r : Row A) (e d : End A ℕ) (p : Path A) → Stands (part m (line e p d) r) → (a : Row A) → compatible T r a ≡ true → In a (possible T G (line e p d)) → In a (possible T H (line e p d))
  line_less m r e d p s a z i =
      let u = in_gather _ G.universe a i in
      let v = in_gather _ G.universe a u.2 in
      let b = u.0 in
      let c = v.0 in
      let w = in_one (stand T e d b c && pair T G p b c) (merge (end_row e b) (end_row d c)) a v.2 in
      let k = and_parts (stand T e d b c) (pair T G p b c) w.0 in
      let ends = and_parts (stands T e b) _ k.0 in
      let far = and_parts (stands T d c) (compatible T (end_row e b) (end_row d c)) ends.1 in
      let fits : compatible T r (merge (end_row e b) (end_row d c)) ≡ true = ap (compatible T r) (sym w.1) ∙ z in
      let there-too : pair T H p b c ≡ true = sym (same_pair p (fixed (member m) e) (fixed (member m) d) (fixed_to r e) (fixed_to r d) (a_line s) b c
      (end_allowed x r e b ends.0 (compatible_first x r (end_row e b) (end_row d c) far.1 fits))
      (end_allowed x r d c far.0 (compatible_second x r (end_row e b) (end_row d c) far.1 fits))) ∙ k.1 in
      let Has-both = pair_ends x H cH p b c there-too in
      gather_in _ H.universe b a (has_in x b H.universe Has-both.0) (gather_in _ H.universe c a (has_in x c H.universe Has-both.1)
      (one_in (stand T e d b c && pair T H p b c) _ a (and_from _ _ k.0 there-too) w.1))

  pub rows_less : (p : Pattern A ℕ) (m : ℕ) (r : Row A) → Stands (part m p r) → (a : Row A) → compatible T r a ≡ true → In a (possible T G p) → In a (possible T H p)
  rows_less empty m r s a z i = i
  rows_less (line e p d) m r s a z i = line_less m r e d p s a z i
  rows_less (and p q) m r s a z i =
      let c = in_merges T (possible T G p) (possible T G q) a i in
      let fits : compatible T r (merge c.0 c.1) ≡ true = ap (compatible T r) (sym c.5) ∙ z in
      let fits-left = compatible_first x r c.0 c.1 c.4 fits in
      let fits-right = compatible_second x r c.0 c.1 c.4 fits in
      by_test (left_first m p q)
      (λ e. let first = rows_less p m r (first_side s e) c.0 fits-left c.2 in
      merges_in T (possible T H p) (possible T H q) c.0 c.1 a first
      (rows_less q (bit_or m (sure_mask p)) (merge r c.0) (then_right s e c.0 first fits-left) c.1 (after_first r c.0 c.1 fits-left c.4 fits) c.3) c.4 c.5)
      (λ e. let first = rows_less q m r (second_side s e) c.1 fits-right c.3 in
      let turned = compatible_order x c.1 c.0 ∙ c.4 in
      merges_in T (possible T H p) (possible T H q) c.0 c.1 a
      (rows_less p (bit_or m (sure_mask q)) (merge r c.1) (then_left s e c.1 first fits-right) c.0
      (after_first r c.1 c.0 fits-right turned (ap (compatible T r) (merge_order x c.1 c.0 turned) ∙ fits)) c.2) first c.4 c.5)
  rows_less (union p q) m r s a z i =
      elim (in_either a (possible T G p) (possible T G q) i) [
        | inl j ↦ in_left a _ _ (rows_less p m r (left_union s) a z j)
        | inr j ↦ in_right a (possible T H p) _ (rows_less q m r (right_union s) a z j)
      ]
  rows_less (opt p q) m r s a z i =
      elim (in_either a (merges T (possible T G p) (possible T G q)) (possible T G p) i) [
        | inl j ↦ (let c = in_merges T (possible T G p) (possible T G q) a j in
            let fits : compatible T r (merge c.0 c.1) ≡ true = ap (compatible T r) (sym c.5) ∙ z in
            let fits-left = compatible_first x r c.0 c.1 c.4 fits in
            let first = rows_less p m r (outside s) c.0 fits-left c.2 in
            in_left a _ _ (merges_in T (possible T H p) (possible T H q) c.0 c.1 a first (rows_less q (sure_mask p) c.0 (option s c.0 first fits-left) c.1 c.4 c.3) c.4 c.5))
        | inr j ↦ in_right a (merges T (possible T H p) (possible T H q)) _ (rows_less p m r (outside s) a z j)
      ]

  -- ---- what is reached

  -- a star walks from one end whatever is fixed at the other
  onward_agreed : {l r : Bool} {p : Path A} {o u : Option A} → from_left l p ≡ true → Agreed T G H (path l r (star p) o u) → Agreed T G H (path l false (star p) o None)
  onward_agreed e h y here i reads iri = elim reads [ ]
  onward_agreed e h y (there (onwards d a m f k) c) i reads iri = h y (there (onwards d a m f k) c) i reads iri
  onward_agreed e h y (there (backwards d m b f k) c) i reads iri = clash e d

  backward_agreed : {l r : Bool} {p : Path A} {o u : Option A} → from_left l p ≡ false → Agreed T G H (path l r (star p) o u) → Agreed T G H (path false r (star p) None u)
  backward_agreed e h y here i reads iri = elim reads [ ]
  backward_agreed e h y (there (onwards d a m f k) c) i reads iri = clash d refl
  backward_agreed e h y (there (backwards d m b f k) c) i reads iri = h y (there (backwards e m b f k) c) i reads iri

  -- where the plan over G goes from a sub-question, the plan over H goes too
  pub leads_less : {q y : Asking A} → Stands q → Leads T G q y → Leads T H q y × Stands y
  leads_less s to_inverse = (to_inverse, (s.0, s.2, s.1, λ y c. s.3 y (there to_inverse c)))
  leads_less s (to_left_choice {l} {r} {p} {q}) = (to_left_choice, ((and_parts (walkable p l r) (walkable q l r) s.0).0, s.1, s.2, λ y c. s.3 y (there to_left_choice c)))
  leads_less s (to_right_choice {l} {r} {p} {q}) = (to_right_choice, ((and_parts (walkable p l r) (walkable q l r) s.0).1, s.1, s.2, λ y c. s.3 y (there to_right_choice c)))
  leads_less s (to_left_step {l} {r} {p} {q} e) = (to_left_step e, ((and_parts (walkable p l false) (walkable q true r) e).0, s.1, refl, λ y c. s.3 y (there (to_left_step e) c)))
  leads_less s (from_left_step {l} {r} {p} {q} {x = o} {y = u} e a m f h) =
      let v = and_parts (walkable p l false) (walkable q true r) e in
      let first : Stands (path l false p o None) = (v.0, s.1, refl, λ y c. s.3 y (there (to_left_step e) c)) in
      let i : pair T H p a m ≡ true = sym (same_pair p l false o None first a m f refl) ∙ h in
      (from_left_step e a m f i, (v.1, (pair_ends x H cH p a m i).1, s.2, λ y c. s.3 y (there (from_left_step e a m f i) c)))
  leads_less s (to_right_step {l} {r} {p} {q} e) =
      (to_right_step e, ((and_parts (walkable q false r) (walkable p l true) (or_second (walkable p l false && walkable q true r) _ s.0 e)).0, refl, s.2, λ y c. s.3 y (there (to_right_step e) c)))
  leads_less s (from_right_step {l} {r} {p} {q} {x = o} {y = u} e m b f h) =
      let v = and_parts (walkable q false r) (walkable p l true) (or_second (walkable p l false && walkable q true r) _ s.0 e) in
      let first : Stands (path false r q None u) = (v.0, refl, s.2, λ y c. s.3 y (there (to_right_step e) c)) in
      let i : pair T H q m b ≡ true = sym (same_pair q false r None u first m b refl f) ∙ h in
      (from_right_step e m b f i, (v.1, s.1, (pair_ends x H cH q m b i).0, λ y c. s.3 y (there (from_right_step e m b f i) c)))
  leads_less s (onwards {l} {r} {p} {x = o} {y = u} e a m f h) =
      let v = and_parts l (walkable p true false) e in
      let here-too : Stands (path l false (star p) o None) = (or_left (l && walkable p true false) _ e, s.1, refl, onward_agreed e s.3) in
      let i : pair T H (star p) a m ≡ true = sym (same_pair (star p) l false o None here-too a m f refl) ∙ h in
      (onwards e a m f i, (v.1, (pair_ends x H cH (star p) a m i).1, refl, λ y c. s.3 y (there (onwards e a m f i) c)))
  leads_less s (backwards {l} {r} {p} {x = o} {y = u} e m b f h) =
      let w = or_second (l && walkable p true false) _ s.0 e in
      let v = and_parts r (walkable p false true) w in
      let here-too : Stands (path false r (star p) None u) = (w, refl, s.2, backward_agreed e s.3) in
      let i : pair T H (star p) m b ≡ true = sym (same_pair (star p) false r None u here-too m b refl f) ∙ h in
      (backwards e m b f i, (v.1, refl, (pair_ends x H cH (star p) m b i).0, λ y c. s.3 y (there (backwards e m b f i) c)))
  leads_less s to_path = (to_path, a_line s)
  leads_less s (to_left_side e) = (to_left_side e, first_side s e)
  leads_less s (from_left_side {m} {p} {q} {r} e a i z) = let j = rows_less p m r (first_side s e) a z i in (from_left_side e a j z, then_right s e a j z)
  leads_less s (to_right_side e) = (to_right_side e, second_side s e)
  leads_less s (from_right_side {m} {p} {q} {r} e a i z) = let j = rows_less q m r (second_side s e) a z i in (from_right_side e a j z, then_left s e a j z)
  leads_less s to_left_union = (to_left_union, left_union s)
  leads_less s to_right_union = (to_right_union, right_union s)
  leads_less s to_outside = (to_outside, outside s)
  leads_less s (to_option {m} {p} {q} {r} a i z) = let j = rows_less p m r (outside s) a z i in (to_option a j z, option s a j z)

  pub reached_less : {q y : Asking A} → Stands q → Reached T G q y → Reached T H q y × Stands y
  reached_less s here = (here, s)
  reached_less s (there step rest) = let next = leads_less s step in let far = reached_less next.1 rest in (there next.0 far.0, far.1)

  -- ---- crowds

  onward_stands : {l r : Bool} {p : Path A} {o u : Option A} → Stands (path l r (star p) o u) → from_left l p ≡ true → Stands (path l false (star p) o None)
  onward_stands {l} {p = p} s e = (or_left (l && walkable p true false) _ e, s.1, refl, onward_agreed e s.3)

  backward_stands : {l r : Bool} {p : Path A} {o u : Option A} → Stands (path l r (star p) o u) → from_left l p ≡ false → Stands (path false r (star p) None u)
  backward_stands {l} {p = p} s e = (or_second (l && walkable p true false) _ s.0 e, refl, s.2, backward_agreed e s.3)

  crowded_less : {q : Asking A} → Stands q → Crowded T G q → Crowded T H q
  crowded_less s (rows {m} {p} {r} c) = rows (crowd_more _ _ (λ a h. (rows_less p m r s a h.1 h.0, h.1)) c)
  crowded_less s (pairs {l} {r} {p} {x = o} {y = u} c) =
      pairs (crowd_more _ _ (λ b h. (h.0, h.1, sym (same_pair p l r o u s b.0 b.1 h.0 h.1) ∙ h.2)) c)
  crowded_less s (onward {l} {r} {p} {x = o} {y = u} e a f c) =
      onward e a f (crowd_more _ _ (λ m h. sym (same_pair (star p) l false o None (onward_stands s e) a m f refl) ∙ h) c)
  crowded_less s (backward {l} {r} {p} {x = o} {y = u} e b f c) =
      backward e b f (crowd_more _ _ (λ m h. sym (same_pair (star p) false r None u (backward_stands s e) m b refl f) ∙ h) c)

-- ---- over shelves

pub nothing_else_matters : {A : Type 0} → NothingElseMatters A
nothing_else_matters {A} T x less more part_of p o V U v u h = record {
  rows = λ a. (rows_less x G H cG cH bigger p 0 [] start a refl, kept.rows a);
  weights = λ k l. walk_is_complete T x k l more less part_of p o U V u v h;
  needs = λ i. ((λ n. record { asking = n.asking; reached = (reached_less x G H cG cH bigger start n.reached).0; reads = n.reads; iri = n.iri }), kept.needs i);
  crowds = ((λ n. let far = reached_less x G H cG cH bigger start n.reached in record { asking = n.asking; reached = far.0; crowded = crowded_less x G H cG cH bigger far.1 n.crowded }), kept.crowds);
}
  where
    G : Graph A
    G = graph_of T more U

    H : Graph A
    H = graph_of T less V

    cG : Closed T G
    cG = web_closed x more p U u

    cH : Closed T H
    cH = web_closed x less p V v

    bigger : (a : A) → has T a V ≡ true → has T a U ≡ true
    bigger = shelf_less x more less part_of p U V u v

    start : Stands x G H cG cH bigger (whole p)
    start = (o, question_terms x more less part_of p U V u v, gives_nothing x H, λ y c i z e. ap (λ l. cond (T.is_iri i) (about T i l) []) (sym (h i (record { asking = y; reached = c; reads = z; iri = e }))))

    kept : KeptByGrowth T H G p
    kept = kept_by_growth x H G cH cG (shelf_grows x more less part_of p U V u v) p
