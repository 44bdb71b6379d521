-- Stars: a closure from the end that is fixed, and what of it the other end allows.
use Rattle.std.proofs.Common.{◌≡◌, ◌≤◌, Bool, true, false, cond, List, [], ◌∷◌, length, Some, None, Option, sym, refl, ap, ◌∙◌, subst, ap₂, inl, inr, arith}
use Rattle.std.proofs.lemmas.Bool.{and_parts, and_from}
use Rattle.weights.specs.Scales.{Scale, Fair}
use Rattle.grammar.specs.Syntax.{Path, star}
use Rattle.semantics.specs.Terms.{Terms, Exact, In, has}
use Rattle.semantics.specs.Rows.{Row}
use Rattle.semantics.specs.Bags.{Bag}
use Rattle.semantics.specs.Graphs.{Graph, Closed, pair}
use Rattle.semantics.proofs.Lists.{clash}
use Rattle.semantics.proofs.Links.{pair_ends, star_onward, star_backward, star_here, star_after, star_before}
use Rattle.walks.specs.Plans.{from_left, allows, Asking, path, Leads, star_onward as onwards, star_backward as backwards}
use Rattle.walks.specs.Crowds.{Apart, Crowded, pairs, onward as crowd_onward, backward as crowd_backward, TooMany}
use Rattle.solving.specs.Solved.{then, pair_row, left_of, right_of, onward, backward, closed, allows_if, allowed, itself, walked}
use Rattle.answering.specs.Promises.{rows_in}
use Rattle.answering.proofs.Tables.{Tidy, entry_row, row_entry}
use Rattle.answering.proofs.Holding.{Holds, holds_calm, Plain, plain_calm}
use Rattle.answering.proofs.Images.{in_imaged, imaged_in, onward_imaged, backward_imaged}
use Rattle.answering.proofs.PathSums.{both, PathRow, path_sum}
use Rattle.answering.proofs.Listings.{plain_left, plain_right}
use Rattle.answering.proofs.Closures.{Closing, closure}
use Rattle.answering.proofs.Asked.{ReadAt, much_here, much_on, read_on, much_split, read_split, after_star_left, after_star_right, reads_star, crowd_along}
use Rattle.answering.proofs.Readings.{crowd_rows, Walks}

module _ {A : Type 0} (T : Terms A) (context : A → List (A × A)) {K : Type 0} (s : Scale K) (end : Row A → Option A) (y : Option A) where
  abbrev of : Bag A K → Bag A K
  of B = allowed T s end y B

  in_allowed : (B : Bag A K) (e : Row A × K) → In e (of B) → In e B × (allows_if T s y (end e.0) ≡ true)
  in_allowed [] e i = elim i [ ]
  in_allowed (d ∷ B) e i = go (allows_if T s y (end d.0)) refl i (λ j. in_allowed B e j)
    where
      go : (b : Bool) → allows_if T s y (end d.0) ≡ b → In e (cond b (d ∷ of B) (of B)) → (In e (of B) → In e B × (allows_if T s y (end e.0) ≡ true))
          → In e (d ∷ B) × (allows_if T s y (end e.0) ≡ true)
      go true q (inl j) h = (inl j, ap (λ z. allows_if T s y (end z.0)) j ∙ q)
      go true q (inr j) h = let r = h j in (inr r.0, r.1)
      go false q j h = let r = h j in (inr r.0, r.1)

  allowed_in : (B : Bag A K) (e : Row A × K) → In e B → allows_if T s y (end e.0) ≡ true → In e (of B)
  allowed_in [] e i q = elim i [ ]
  allowed_in (d ∷ B) e (inl i) q =
      subst (λ t. In e (cond t (d ∷ of B) (of B))) (sym q ∙ ap (λ z. allows_if T s y (end z.0)) i) (inl i)
  allowed_in (d ∷ B) e (inr i) q = further (allows_if T s y (end d.0)) (allowed_in B e i q)
    where
      further : (b : Bool) → In e (of B) → In e (cond b (d ∷ of B) (of B))
      further true j = inr j
      further false j = j

  allowed_row : (B : Bag A K) (a : Row A) → In a (rows_in (of B)) → In a (rows_in B)
  allowed_row B a i = let r = row_entry a (of B) i in entry_row (a, r.0) B (in_allowed B (a, r.0) r.1).0

  allowed_once : (B : Bag A K) → Apart (rows_in B) → Apart (rows_in (of B))
  allowed_once [] o = tt
  allowed_once (d ∷ B) o = go (allows_if T s y (end d.0)) (allowed_once B o.1)
    where
      go : (b : Bool) → Apart (rows_in (of B)) → Apart (rows_in (cond b (d ∷ of B) (of B)))
      go true h = ((λ i. o.0 (allowed_row B d.0 i)), h)
      go false h = h

  allowed_length : (B : Bag A K) → length (of B) ≤ length B
  allowed_length [] = omega arith
  allowed_length (d ∷ B) = go (allows_if T s y (end d.0)) (allowed_length B)
    where
      go : (b : Bool) → length (of B) ≤ length B → length (cond b (d ∷ of B) (of B)) ≤ length (d ∷ B)
      go true h = omega (arith, h)
      go false h = omega (arith, h)

  pub allowed_plain : (row : Row A → Type 0) (B : Bag A K) → Plain s row B → Plain s (λ a. row a × (allows_if T s y (end a) ≡ true)) (of B)
  allowed_plain row B p = record {
    table = record {
      once = allowed_once B p.table.once;
      few = (let l = allowed_length B in let m = p.table.few in omega (arith, l, m));
      neat = λ a i. p.table.neat a (allowed_row B a i);
    };
    ones = λ e i. p.ones e (in_allowed B e i).0;
    sound = λ a i. (let r = row_entry a (of B) i in let q = in_allowed B (a, r.0) r.1 in (p.sound a (entry_row (a, r.0) B q.0), q.1));
    complete = λ a i. (let r = row_entry a B (p.complete a i.0) in entry_row (a, r.0) (of B) (allowed_in B (a, r.0) r.1 i.1));
  }

module _ {A : Type 0} {T : Terms A} (x : Exact T) (G : Graph A) (c : Closed T G) {K : Type 0} {s : Scale K} (f : Fair s) (p : Path A) (l r : Bool) where
  abbrev ctx : A → List (A × A)
  ctx = G.context

  -- ---- from the left end

  module _ (from : from_left l p ≡ true) (a : A) (h : has T a G.universe ≡ true)
      (inner : (m : A) → has T m G.universe ≡ true → (seen : List A) → Walks T G s p true false (Some m) None seen (walked T s ctx ◌∷◌ p true false (Some m) None seen)) where
    same_second : (m n : A) → both a m ≡ both a n → m ≡ n
    same_second m n e = let q : Some m ≡ Some n = ap right_of e in cc

    onward_rows : (e : Row A × K) (m : A) → e.0 ≡ both a m → (C : Bag A K) → Holds s (path_sum T G s p (Some m) None) (PathRow T G p (Some m) None) C
        → (q : Row A) → In q (rows_in (onward T s e C)) → (b : A) × (pair T G p m b ≡ true) × (q ≡ both a b)
    onward_rows e m z C k q i =
        let w = in_imaged s (λ b. pair_row (left_of e.0) (right_of b)) e.1 C q (subst (λ L. In q (rows_in L)) (onward_imaged s T ctx e C) i) in
        let v = k.sound w.0 w.1 in
        (v.1, subst (λ n. pair T G p n v.1 ≡ true) (sym (x.tells m v.0 v.2)) v.4, w.2 ∙ ap₂ (λ n o. pair_row (left_of n) (right_of o)) z v.5)

    onward_all : (e : Row A × K) (m : A) → e.0 ≡ both a m → (C : Bag A K) → Holds s (path_sum T G s p (Some m) None) (PathRow T G p (Some m) None) C
        → (b : A) → pair T G p m b ≡ true → In (both a b) (rows_in (onward T s e C))
    onward_all e m z C k b i =
        subst (λ L. In (both a b) (rows_in L)) (sym (onward_imaged s T ctx e C))
        (imaged_in s (λ n. pair_row (left_of e.0) (right_of n)) e.1 C (both m b) (both a b) (k.complete (both m b) (m, b, x.told m, refl, i, refl))
        (ap (λ n. pair_row (left_of n) (Some b)) (sym z)))

    abbrev way : Option A → Asking A
    way m = path true false p m None

    abbrev Shut : List A → Option (List A × Bag A K) → Type 0
    Shut = Closing x ctx s (λ q. walked T s ctx ◌∷◌ p true false (right_of q) None) (onward T s) (both a) (λ m b. pair T G p m b) (λ m. pair T G (star p) a m) a
        (λ m. TooMany T G (way (Some m))) (λ m. ReadAt T G (way (Some m))) (λ m. path_sum T G s p (Some m) None) (λ m. PathRow T G p (Some m) None)
        same_second (λ m. refl) (star_here x G p a h) (λ m b i j. star_after x G c p a m b i j)
        (λ m i seen. inner m (pair_ends x G c (star p) a m i).1 seen)
        (λ e m z C k q i. subst Tidy (sym (onward_rows e m z C k q i).2) refl) onward_rows onward_all
        (λ B i n m e. star_onward x G p (λ z. In (both a z) B) (λ u v g j. n u v g j) a m e i)

    shut : (seen : List A) → Shut seen (closed T s ctx ◌∷◌ (λ q. walked T s ctx ◌∷◌ p true false (right_of q) None) (onward T s) 257 0 (itself T s (Some a)) seen)
    shut seen = closure x ctx s (λ q. walked T s ctx ◌∷◌ p true false (right_of q) None) (onward T s) (both a) (λ m b. pair T G p m b) (λ m. pair T G (star p) a m) a
        (λ m. TooMany T G (way (Some m))) (λ m. ReadAt T G (way (Some m))) (λ m. path_sum T G s p (Some m) None) (λ m. PathRow T G p (Some m) None)
        same_second (λ m. refl) (star_here x G p a h) (λ m b i j. star_after x G c p a m b i j)
        (λ m i seen. inner m (pair_ends x G c (star p) a m i).1 seen)
        (λ e m z C k q i. subst Tidy (sym (onward_rows e m z C k q i).2) refl) onward_rows onward_all
        (λ B i n m e. star_onward x G p (λ z. In (both a z) B) (λ u v g j. n u v g j) a m e i) seen

    reached_left : (P : Asking A → Type 0) (y : Option A) (z : Asking A) → Leads T G (path l r (star p) (Some a) y) z → P z
        → (m : A) × (pair T G (star p) a m ≡ true) × P (way (Some m))
    reached_left P y z k w =
        let v = after_star_left P l r p (Some a) y z from k w in
        (v.1, subst (λ n. pair T G (star p) n v.1 ≡ true) (sym (x.tells a v.0 v.2)) v.3, v.4)

    pub star_left_solves : (y : Option A) (seen : List A) → Walks T G s (star p) l r (Some a) y seen
        (then (closed T s ctx ◌∷◌ (λ q. walked T s ctx ◌∷◌ p true false (right_of q) None) (onward T s) 257 0 (itself T s (Some a)) seen)
        (λ o. Some (o.0, allowed T s right_of y o.1)))
    star_left_solves y seen = go (closed T s ctx ◌∷◌ (λ q. walked T s ctx ◌∷◌ p true false (right_of q) None) (onward T s) 257 0 (itself T s (Some a)) seen) (shut seen)
      where
        RowOf : Row A → Type 0
        RowOf = λ q. (m : A) × (pair T G (star p) a m ≡ true) × (q ≡ both a m)

        go : (o : Option (List A × Bag A K)) → Shut seen o → Walks T G s (star p) l r (Some a) y seen (then o (λ d. Some (d.0, allowed T s right_of y d.1)))
        go None (inl k) = much_on (onwards from a k.0 (x.told a) k.1) k.2
        go None (inr k) = much_here (crowd_onward from a (x.told a) (crowd_along RowOf (λ m. pair T G (star p) a m ≡ true) (λ q m. q ≡ both a m)
            (λ q i. (i.0, i.1, i.2)) (λ q t m i j. i ∙ sym j) k))
        go (Some o) k =
            let n = allowed_plain T ctx s right_of y RowOf o.1 k.plain in
            let g = plain_left x G c f (star p) (λ b d. refl) a y h (allowed T s right_of y o.1) (record {
              table = n.table;
              ones = n.ones;
              sound = λ q i. (let w = n.sound q i in
                  (w.0.0, and_from _ _ (subst (λ z. allows_if T s y (right_of z) ≡ true) w.0.2 w.1) w.0.1, w.0.2));
              complete = λ q i. (let w = and_parts (allows T y i.0) (pair T G (star p) a i.0) i.1 in
                  n.complete q ((i.0, w.1, i.2), subst (λ z. allows_if T s y (right_of z) ≡ true) (sym i.2) w.0));
            }) in
            record {
              holds = g;
              reads = λ i j. elim (k.reads i j) [
                | inl m ↦ inl m
                | inr m ↦ inr (read_on (onwards from a m.0 (x.told a) m.1) m.2)
              ];
              kept = λ i j. k.kept i (elim j [
                | inl m ↦ inl m
                | inr m ↦ elim (read_split m) [
                  | inl d ↦ absurd (reads_star l r p (Some a) y i d)
                  | inr d ↦ inr (reached_left (λ z. ReadAt T G z i) y d.0 d.1 d.2)
                ]
              ]);
              calm = λ m. elim (much_split m) [
                | inl d ↦ much k.plain g d
                | inr d ↦ (let w = reached_left (TooMany T G) y d.0 d.1 d.2 in k.calm w.0 w.1 w.2)
              ];
            }
          where
            much : Plain s RowOf o.1 → Holds s (path_sum T G s (star p) (Some a) y) (PathRow T G (star p) (Some a) y) (allowed T s right_of y o.1)
                → Crowded T G (path l r (star p) (Some a) y) → ⊥
            much n g (pairs d) = holds_calm (path_sum T G s (star p) (Some a) y) (PathRow T G (star p) (Some a) y) (allowed T s right_of y o.1) g (crowd_rows T G (star p) (Some a) y d)
            much n g (crowd_onward d b i k) = plain_calm RowOf o.1 n (crowd_along (λ m. pair T G (star p) b m ≡ true) RowOf (λ m q. q ≡ both a m)
                (λ m j. (both a m, (m, subst (λ z. pair T G (star p) z m ≡ true) (sym (x.tells a b i)) j, refl), refl))
                (λ m v q j u. same_second m v (sym j ∙ u)) k)
            much n g (crowd_backward d b i k) = clash from d

  -- ---- from the right end

  module _ (from : from_left l p ≡ false) (a : A) (h : has T a G.universe ≡ true)
      (inner : (m : A) → has T m G.universe ≡ true → (seen : List A) → Walks T G s p false true None (Some m) seen (walked T s ctx ◌∷◌ p false true None (Some m) seen)) where
    same_first : (m n : A) → both m a ≡ both n a → m ≡ n
    same_first m n e = let q : Some m ≡ Some n = ap left_of e in cc

    backward_rows : (e : Row A × K) (m : A) → e.0 ≡ both m a → (C : Bag A K) → Holds s (path_sum T G s p None (Some m)) (PathRow T G p None (Some m)) C
        → (q : Row A) → In q (rows_in (backward T s e C)) → (b : A) × (pair T G p b m ≡ true) × (q ≡ both b a)
    backward_rows e m z C k q i =
        let w = in_imaged s (λ b. pair_row (left_of b) (right_of e.0)) e.1 C q (subst (λ L. In q (rows_in L)) (backward_imaged s T ctx e C) i) in
        let v = k.sound w.0 w.1 in
        (v.0, subst (λ n. pair T G p v.0 n ≡ true) (sym (x.tells m v.1 v.3)) v.4, w.2 ∙ ap₂ (λ n o. pair_row (left_of o) (right_of n)) z v.5)

    backward_all : (e : Row A × K) (m : A) → e.0 ≡ both m a → (C : Bag A K) → Holds s (path_sum T G s p None (Some m)) (PathRow T G p None (Some m)) C
        → (b : A) → pair T G p b m ≡ true → In (both b a) (rows_in (backward T s e C))
    backward_all e m z C k b i =
        subst (λ L. In (both b a) (rows_in L)) (sym (backward_imaged s T ctx e C))
        (imaged_in s (λ n. pair_row (left_of n) (right_of e.0)) e.1 C (both b m) (both b a) (k.complete (both b m) (b, m, refl, x.told m, i, refl))
        (ap (λ n. pair_row (Some b) (right_of n)) (sym z)))

    abbrev way' : Option A → Asking A
    way' m = path false true p None m

    abbrev Shut' : List A → Option (List A × Bag A K) → Type 0
    Shut' = Closing x ctx s (λ q. walked T s ctx ◌∷◌ p false true None (left_of q)) (backward T s) (λ m. both m a) (λ m b. pair T G p b m) (λ m. pair T G (star p) m a) a
        (λ m. TooMany T G (way' (Some m))) (λ m. ReadAt T G (way' (Some m))) (λ m. path_sum T G s p None (Some m)) (λ m. PathRow T G p None (Some m))
        same_first (λ m. refl) (star_here x G p a h) (λ m b i j. star_before x G c p b m a j i)
        (λ m i seen. inner m (pair_ends x G c (star p) m a i).0 seen)
        (λ e m z C k q i. subst Tidy (sym (backward_rows e m z C k q i).2) refl) backward_rows backward_all
        (λ B i n m e. star_backward x G p (λ z. In (both z a) B) (λ u v g j. n v u g j) m a e i)

    shut' : (seen : List A) → Shut' seen (closed T s ctx ◌∷◌ (λ q. walked T s ctx ◌∷◌ p false true None (left_of q)) (backward T s) 257 0 (itself T s (Some a)) seen)
    shut' seen = closure x ctx s (λ q. walked T s ctx ◌∷◌ p false true None (left_of q)) (backward T s) (λ m. both m a) (λ m b. pair T G p b m) (λ m. pair T G (star p) m a) a
        (λ m. TooMany T G (way' (Some m))) (λ m. ReadAt T G (way' (Some m))) (λ m. path_sum T G s p None (Some m)) (λ m. PathRow T G p None (Some m))
        same_first (λ m. refl) (star_here x G p a h) (λ m b i j. star_before x G c p b m a j i)
        (λ m i seen. inner m (pair_ends x G c (star p) m a i).0 seen)
        (λ e m z C k q i. subst Tidy (sym (backward_rows e m z C k q i).2) refl) backward_rows backward_all
        (λ B i n m e. star_backward x G p (λ z. In (both z a) B) (λ u v g j. n v u g j) m a e i) seen

    reached_right : (P : Asking A → Type 0) (y : Option A) (z : Asking A) → Leads T G (path l r (star p) y (Some a)) z → P z
        → (m : A) × (pair T G (star p) m a ≡ true) × P (way' (Some m))
    reached_right P y z k w =
        let v = after_star_right P l r p y (Some a) z from k w in
        (v.1, subst (λ n. pair T G (star p) v.1 n ≡ true) (sym (x.tells a v.0 v.2)) v.3, v.4)

    pub star_right_solves : (y : Option A) (seen : List A) → Walks T G s (star p) l r y (Some a) seen
        (then (closed T s ctx ◌∷◌ (λ q. walked T s ctx ◌∷◌ p false true None (left_of q)) (backward T s) 257 0 (itself T s (Some a)) seen)
        (λ o. Some (o.0, allowed T s left_of y o.1)))
    star_right_solves y seen = go (closed T s ctx ◌∷◌ (λ q. walked T s ctx ◌∷◌ p false true None (left_of q)) (backward T s) 257 0 (itself T s (Some a)) seen) (shut' seen)
      where
        RowOf : Row A → Type 0
        RowOf = λ q. (m : A) × (pair T G (star p) m a ≡ true) × (q ≡ both m a)

        go : (o : Option (List A × Bag A K)) → Shut' seen o → Walks T G s (star p) l r y (Some a) seen (then o (λ d. Some (d.0, allowed T s left_of y d.1)))
        go None (inl k) = much_on (backwards from k.0 a (x.told a) k.1) k.2
        go None (inr k) = much_here (crowd_backward from a (x.told a) (crowd_along RowOf (λ m. pair T G (star p) m a ≡ true) (λ q m. q ≡ both m a)
            (λ q i. (i.0, i.1, i.2)) (λ q t m i j. i ∙ sym j) k))
        go (Some o) k =
            let n = allowed_plain T ctx s left_of y RowOf o.1 k.plain in
            let g = plain_right x G c f (star p) (λ b d. refl) y a h (allowed T s left_of y o.1) (record {
              table = n.table;
              ones = n.ones;
              sound = λ q i. (let w = n.sound q i in
                  (w.0.0, and_from _ _ (subst (λ z. allows_if T s y (left_of z) ≡ true) w.0.2 w.1) w.0.1, w.0.2));
              complete = λ q i. (let w = and_parts (allows T y i.0) (pair T G (star p) i.0 a) i.1 in
                  n.complete q ((i.0, w.1, i.2), subst (λ z. allows_if T s y (left_of z) ≡ true) (sym i.2) w.0));
            }) in
            record {
              holds = g;
              reads = λ i j. elim (k.reads i j) [
                | inl m ↦ inl m
                | inr m ↦ inr (read_on (backwards from m.0 a (x.told a) m.1) m.2)
              ];
              kept = λ i j. k.kept i (elim j [
                | inl m ↦ inl m
                | inr m ↦ elim (read_split m) [
                  | inl d ↦ absurd (reads_star l r p y (Some a) i d)
                  | inr d ↦ inr (reached_right (λ z. ReadAt T G z i) y d.0 d.1 d.2)
                ]
              ]);
              calm = λ m. elim (much_split m) [
                | inl d ↦ much k.plain g d
                | inr d ↦ (let w = reached_right (TooMany T G) y d.0 d.1 d.2 in k.calm w.0 w.1 w.2)
              ];
            }
          where
            much : Plain s RowOf o.1 → Holds s (path_sum T G s (star p) y (Some a)) (PathRow T G (star p) y (Some a)) (allowed T s left_of y o.1)
                → Crowded T G (path l r (star p) y (Some a)) → ⊥
            much n g (pairs d) = holds_calm (path_sum T G s (star p) y (Some a)) (PathRow T G (star p) y (Some a)) (allowed T s left_of y o.1) g (crowd_rows T G (star p) y (Some a) d)
            much n g (crowd_backward d b i k) = plain_calm RowOf o.1 n (crowd_along (λ m. pair T G (star p) m b ≡ true) RowOf (λ m q. q ≡ both m a)
                (λ m j. (both m a, (m, subst (λ z. pair T G (star p) m z ≡ true) (sym (x.tells a b i)) j, refl), refl))
                (λ m v q j u. same_first m v (sym j ∙ u)) k)
            much n g (crowd_onward d b i k) = clash d from
