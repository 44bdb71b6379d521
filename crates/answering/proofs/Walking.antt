-- A path that can be walked is solved: its table holds its pairs with their weights, what was read is what it reads, and it gives up exactly where
-- there is too much.
use Rattle.std.proofs.Common.{◌≡◌, Bool, true, false, cond, ◌&&◌, ◌⊎◌, List, [], ◌∷◌, Some, None, Option, sym, refl, ap, ◌∙◌, subst, ap₂, inl, inr, arith}
use Rattle.std.proofs.lemmas.Bool.{and_parts, and_from, or_left, or_right, or_cases}
use Rattle.weights.specs.Scales.{Scale, Fair}
use Rattle.grammar.specs.Syntax.{Path, link, negated, inverse, star, sequence, alternative}
use Rattle.grammar.specs.Walkable.{walkable}
use Rattle.semantics.specs.Terms.{Terms, Exact, has}
use Rattle.semantics.specs.Rows.{Row}
use Rattle.semantics.specs.Bags.{Bag}
use Rattle.semantics.specs.Graphs.{Graph, Closed, pair}
use Rattle.semantics.proofs.Lists.{clash, or_second, any_in, any_from, has_in}
use Rattle.semantics.proofs.Links.{pair_ends}
use Rattle.walks.specs.Plans.{left_step_first, from_left, allows, Asking, path, to_inverse, to_left_choice, to_right_choice, to_left_step, from_left_step, to_right_step, from_right_step}
use Rattle.walks.specs.Crowds.{Crowd, pairs, TooMany}
use Rattle.walks.proofs.Gives.{Known}
use Rattle.solving.specs.Solved.{then, pair_row, left_of, right_of, turned, onward, backward, walked, each_of, closed, itself, allowed}
use Rattle.walks.proofs.Crowding.{crowd_more}
use Rattle.answering.proofs.Tables.{Tidy}
use Rattle.answering.proofs.Holding.{Holds, holds_calm}
use Rattle.answering.proofs.Folds.{solves_same, solves_made, Made, then_each, then_pour}
use Rattle.answering.proofs.Images.{imaged_made, onward_imaged, backward_imaged, flip, integral_turned, turned_length, in_turned, turned_in, turned_once}
use Rattle.answering.proofs.PathSums.{both, PathRow, path_sum, sum_inverse, sum_alternative, sum_sequence_left, sum_sequence_right}
use Rattle.answering.proofs.Asked.{ReadAt, much_here, much_on, read_on, much_split, read_split, after_inverse, after_alternative, after_left_step, after_right_step, reads_inverse, reads_alternative, reads_sequence}
use Rattle.answering.proofs.Choices.{second_step}
use Rattle.answering.proofs.Readings.{crowd_pairs, crowd_rows, Walks, link_solves, negated_solves}
use Rattle.answering.proofs.Stars.{star_left_solves, star_right_solves}

module _ {A : Type 0} {T : Terms A} (x : Exact T) (G : Graph A) (c : Closed T G) {K : Type 0} {s : Scale K} (f : Fair s) where
  abbrev ctx : A → List (A × A)
  ctx = G.context

  -- ---- inverse

  turned_holds : (p : Path A) (o u : Option A) (B : Bag A K) → Holds s (path_sum T G s p u o) (PathRow T G p u o) B
      → Holds s (path_sum T G s (inverse p) o u) (PathRow T G (inverse p) o u) (turned T s B)
  turned_holds p o u B h = record {
    table = record {
      once = turned_once s T ctx B (λ q t i j e. let v = h.sound q i in let w = h.sound t j in
          back q t v.0 v.1 w.0 w.1 v.5 w.5 e) h.table.once;
      few = (let e = turned_length s T ctx B in let l = h.table.few in omega (arith, e, l));
      neat = λ a i. (let w = in_turned s T ctx B a i in let v = h.sound w.0 w.1 in subst Tidy (sym (w.2 ∙ ap flip v.5)) refl);
    };
    balanced = λ g. integral_turned s T ctx g B ∙ h.balanced (λ q. g (flip q)) ∙ sum_inverse x G c.distinct f p o u g;
    sound = λ a i. (let w = in_turned s T ctx B a i in let v = h.sound w.0 w.1 in (v.1, v.0, v.3, v.2, v.4, w.2 ∙ ap flip v.5));
    complete = λ a i. turned_in s T ctx B (both i.1 i.0) a (h.complete (both i.1 i.0) (i.1, i.0, i.3, i.2, i.4, refl)) i.5;
  }
    where
      back : (q t : Row A) (a b d e : A) → q ≡ both a b → t ≡ both d e → flip q ≡ flip t → q ≡ t
      back q t a b d e i j k =
          let z = sym (ap flip i) ∙ k ∙ ap flip j in
          i ∙ ap flip z ∙ sym j

  inverse_solves : (p : Path A) (l r : Bool) (o u : Option A) (seen : List A) → Walks T G s p r l u o seen (walked T s ctx ◌∷◌ p r l u o seen)
      → Walks T G s (inverse p) l r o u seen (walked T s ctx ◌∷◌ (inverse p) l r o u seen)
  inverse_solves p l r o u seen h =
      solves_same s (TooMany T G (path l r (inverse p) o u)) (TooMany T G (path l r (inverse p) o u)) (ReadAt T G (path r l p u o)) (ReadAt T G (path l r (inverse p) o u))
      (path_sum T G s (inverse p) o u) (path_sum T G s (inverse p) o u) (PathRow T G (inverse p) o u) (PathRow T G (inverse p) o u) seen seen
      (walked T s ctx ◌∷◌ (inverse p) l r o u seen) (λ m. m) (λ m. m)
      (λ i j. elim j [ inl m ↦ inl m | inr m ↦ inr (read_on to_inverse m) ])
      (λ i j. elim j [
        | inl m ↦ inl m
        | inr m ↦ elim (read_split m) [
          | inl d ↦ absurd (reads_inverse l r p o u i d)
          | inr d ↦ inr (after_inverse (λ z. ReadAt T G z i) l r p o u d.0 d.1 d.2)
        ]
      ]) (λ g. refl) (λ a i. i) (λ a i. i)
      (solves_made s (TooMany T G (path r l p u o)) (TooMany T G (path l r (inverse p) o u)) (ReadAt T G (path r l p u o)) (path_sum T G s p u o) (path_sum T G s (inverse p) o u)
      (PathRow T G p u o) (PathRow T G (inverse p) o u) seen (walked T s ctx ◌∷◌ p r l u o seen) (turned T s)
      (λ m. much_on to_inverse m)
      (λ B k n m. elim (much_split m) [
        | inl d ↦ elim d [ pairs e ↦ holds_calm (path_sum T G s (inverse p) o u) (PathRow T G (inverse p) o u) (turned T s B) (turned_holds p o u B k) (crowd_rows T G (inverse p) o u e) ]
        | inr d ↦ n (after_inverse (TooMany T G) l r p o u d.0 d.1 d.2)
      ])
      (turned_holds p o u) h)

  -- ---- alternative

  alternative_solves : (p q : Path A) (l r : Bool) (o u : Option A) (seen : List A) → Walks T G s p l r o u seen (walked T s ctx ◌∷◌ p l r o u seen)
      → ((now : List A) → Walks T G s q l r o u now (walked T s ctx ◌∷◌ q l r o u now))
      → Walks T G s (alternative p q) l r o u seen (walked T s ctx ◌∷◌ (alternative p q) l r o u seen)
  alternative_solves p q l r o u seen h k =
      solves_same s (M ⊎ (N ⊎ Crowd Either)) (TooMany T G (path l r (alternative p q) o u))
      (λ i. ReadAt T G (path l r p o u) i ⊎ ReadAt T G (path l r q o u) i) (ReadAt T G (path l r (alternative p q) o u))
      (λ g. s.sum (path_sum T G s p o u g) (path_sum T G s q o u g)) (path_sum T G s (alternative p q) o u) Either (PathRow T G (alternative p q) o u) seen seen
      (walked T s ctx ◌∷◌ (alternative p q) l r o u seen)
      (λ m. elim m [
        | inl n ↦ much_on to_left_choice n
        | inr n ↦ elim n [ inl d ↦ much_on to_right_choice d | inr d ↦ much_here (pairs (crowd_pairs T G (alternative p q) o u (crowd_more Either _ to d))) ]
      ])
      (λ m. elim (much_split m) [
        | inl d ↦ elim d [ pairs e ↦ inr (inr (crowd_more _ Either from (crowd_rows T G (alternative p q) o u e))) ]
        | inr d ↦ elim (after_alternative (TooMany T G) l r p q o u d.0 d.1 d.2) [ inl e ↦ inl e | inr e ↦ inr (inl e) ]
      ])
      (λ i j. elim j [ inl m ↦ inl m | inr m ↦ inr (elim m [ inl d ↦ read_on to_left_choice d | inr d ↦ read_on to_right_choice d ]) ])
      (λ i j. elim j [
        | inl m ↦ inl m
        | inr m ↦ elim (read_split m) [
          | inl d ↦ absurd (reads_alternative l r p q o u i d)
          | inr d ↦ inr (after_alternative (λ z. ReadAt T G z i) l r p q o u d.0 d.1 d.2)
        ]
      ])
      (sum_alternative x G c.distinct f p q o u) to from
      (then_pour x ctx f M N (ReadAt T G (path l r p o u)) (ReadAt T G (path l r q o u)) (path_sum T G s p o u) (path_sum T G s q o u) (PathRow T G p o u) (PathRow T G q o u) seen
      (walked T s ctx ◌∷◌ p l r o u seen) (λ now. walked T s ctx ◌∷◌ q l r o u now) h k)
    where
      M : Type 0
      M = TooMany T G (path l r p o u)

      N : Type 0
      N = TooMany T G (path l r q o u)

      Either : Row A → Type 0
      Either a = PathRow T G p o u a ⊎ PathRow T G q o u a

      to : (a : Row A) → Either a → PathRow T G (alternative p q) o u a
      to a (inl w) = (w.0, w.1, w.2, w.3, or_left (pair T G p w.0 w.1) (pair T G q w.0 w.1) w.4, w.5)
      to a (inr w) = (w.0, w.1, w.2, w.3, or_right (pair T G p w.0 w.1) (pair T G q w.0 w.1) w.4, w.5)

      from : (a : Row A) → PathRow T G (alternative p q) o u a → Either a
      from a w = elim (or_cases (pair T G p w.0 w.1) (pair T G q w.0 w.1) w.4) [
        | inl e ↦ inl (w.0, w.1, w.2, w.3, e, w.5)
        | inr e ↦ inr (w.0, w.1, w.2, w.3, e, w.5)
      ]

  -- ---- sequence, the left part first

  module _ (p q : Path A) (l r : Bool) (o u : Option A) (e : left_step_first l r p q ≡ true) where
    abbrev onto : Row A → Asking A
    onto a = path true r q (right_of a) u

    abbrev StepMakes : Row A → Row A → Type 0
    StepMakes a d = (b : Row A) × PathRow T G q (right_of a) u b × (d ≡ pair_row (left_of a) (right_of b))

    step_to : (d : Row A) → ((a : Row A) × PathRow T G p o None a × StepMakes a d) → PathRow T G (sequence p q) o u d
    step_to d w =
        let v = w.1 in
        let t = w.2.1 in
        let z = x.tells v.1 t.0 (subst (λ k. allows T (right_of k) t.0 ≡ true) v.5 t.2) in (
          v.0,
          t.1,
          v.2,
          t.3,
          any_from (λ m. pair T G p v.0 m && pair T G q m t.1) G.universe v.1 (has_in x v.1 G.universe (pair_ends x G c p v.0 v.1 v.4).1)
              (and_from _ _ v.4 (subst (λ k. pair T G q k t.1 ≡ true) (sym z) t.4)),
          w.2.2 ∙ ap₂ (λ i j. pair_row (left_of i) (right_of j)) v.5 t.5,
        )

    step_from : (d : Row A) → PathRow T G (sequence p q) o u d → (a : Row A) × PathRow T G p o None a × StepMakes a d
    step_from d w =
        let v = any_in (λ m. pair T G p w.0 m && pair T G q m w.1) G.universe w.4 in
        let t = and_parts (pair T G p w.0 v.0) (pair T G q v.0 w.1) v.2 in
        (both w.0 v.0, (w.0, v.0, w.2, refl, t.0, refl), (both v.0 w.1, (v.0, w.1, x.told v.0, w.3, t.1, refl), w.5))

    left_step_solves : (seen : List A) → Walks T G s p l false o None seen (walked T s ctx ◌∷◌ p l false o None seen)
        → ((m : A) → has T m G.universe ≡ true → (now : List A) → Walks T G s q true r (Some m) u now (walked T s ctx ◌∷◌ q true r (Some m) u now))
        → Walks T G s (sequence p q) l r o u seen
        (then (walked T s ctx ◌∷◌ p l false o None seen) (λ d. each_of T s ctx ◌∷◌ (λ m. walked T s ctx ◌∷◌ q true r (right_of m) u) (onward T s) d.1 [] d.0))
    left_step_solves seen h k =
        solves_same s (TooMany T G (path l false p o None) ⊎ (((a : Row A) × PathRow T G p o None a × TooMany T G (onto a)) ⊎ Crowd Makes)) (TooMany T G (path l r (sequence p q) o u))
        (λ i. ReadAt T G (path l false p o None) i ⊎ ((a : Row A) × PathRow T G p o None a × ReadAt T G (onto a) i)) (ReadAt T G (path l r (sequence p q) o u))
        (λ g. path_sum T G s p o None (λ a. path_sum T G s q (right_of a) u (λ b. g (pair_row (left_of a) (right_of b))))) (path_sum T G s (sequence p q) o u)
        Makes (PathRow T G (sequence p q) o u) seen seen
        (then (walked T s ctx ◌∷◌ p l false o None seen) (λ d. each_of T s ctx ◌∷◌ (λ m. walked T s ctx ◌∷◌ q true r (right_of m) u) (onward T s) d.1 [] d.0))
        (λ m. elim m [
          | inl n ↦ much_on (to_left_step e) n
          | inr n ↦ elim n [
            | inl d ↦ (let v = d.1 in much_on (from_left_step e v.0 v.1 v.2 v.4) (subst (λ t. TooMany T G (onto t)) v.5 d.2))
            | inr d ↦ much_here (pairs (crowd_pairs T G (sequence p q) o u (crowd_more Makes _ step_to d)))
          ]
        ])
        (λ m. elim (much_split m) [
          | inl d ↦ elim d [ pairs t ↦ inr (inr (crowd_more _ Makes step_from (crowd_rows T G (sequence p q) o u t))) ]
          | inr d ↦ elim (after_left_step (TooMany T G) l r p q o u d.0 e d.1 d.2) [ inl t ↦ inl t | inr t ↦ inr (inl t) ]
        ])
        (λ i j. elim j [
          | inl m ↦ inl m
          | inr m ↦ inr (elim m [
            | inl d ↦ read_on (to_left_step e) d
            | inr d ↦ (let v = d.1 in read_on (from_left_step e v.0 v.1 v.2 v.4) (subst (λ t. ReadAt T G (onto t) i) v.5 d.2))
          ])
        ])
        (λ i j. elim j [
          | inl m ↦ inl m
          | inr m ↦ elim (read_split m) [
            | inl d ↦ absurd (reads_sequence l r p q o u i d)
            | inr d ↦ inr (after_left_step (λ z. ReadAt T G z i) l r p q o u d.0 e d.1 d.2)
          ]
        ])
        (sum_sequence_left x G c.distinct f p q o u) step_to step_from
        (then_each x ctx f (λ m. walked T s ctx ◌∷◌ q true r (right_of m) u) (onward T s) (PathRow T G p o None) (λ a. TooMany T G (onto a)) (λ a. ReadAt T G (onto a))
        (λ a. path_sum T G s q (right_of a) u) (λ a. PathRow T G q (right_of a) u) (λ g a. path_sum T G s q (right_of a) u (λ b. g (pair_row (left_of a) (right_of b)))) StepMakes
        (λ a w now. subst (λ t. Walks T G s q true r (right_of t) u now (walked T s ctx ◌∷◌ q true r (right_of t) u now)) (sym w.5)
        (k w.1 (pair_ends x G c p w.0 w.1 w.4).1 now))
        (λ d w t C g. subst (Made s d.1 (λ n. path_sum T G s q (right_of d.0) u (λ b. n (pair_row (left_of d.0) (right_of b)))) (StepMakes d.0)) (sym (onward_imaged s T ctx d C))
        (imaged_made s f (λ b. pair_row (left_of d.0) (right_of b)) d.1 C (path_sum T G s q (right_of d.0) u) (PathRow T G q (right_of d.0) u) g
        (λ b i. let v = g.sound b i in subst Tidy (sym (ap₂ (λ n m. pair_row (left_of n) (right_of m)) w.5 v.5)) refl)))
        (TooMany T G (path l false p o None)) (ReadAt T G (path l false p o None)) (path_sum T G s p o None) seen (walked T s ctx ◌∷◌ p l false o None seen) h)
      where
        Makes : Row A → Type 0
        Makes d = (a : Row A) × PathRow T G p o None a × StepMakes a d

  -- ---- sequence, the right part first

  module _ (p q : Path A) (l r : Bool) (o u : Option A) (e : left_step_first l r p q ≡ false) where
    abbrev back_to : Row A → Asking A
    back_to a = path l true p o (left_of a)

    abbrev BackMakes : Row A → Row A → Type 0
    BackMakes a d = (b : Row A) × PathRow T G p o (left_of a) b × (d ≡ pair_row (left_of b) (right_of a))

    back_into : (d : Row A) → ((a : Row A) × PathRow T G q None u a × BackMakes a d) → PathRow T G (sequence p q) o u d
    back_into d w =
        let v = w.1 in
        let t = w.2.1 in
        let z = x.tells v.0 t.1 (subst (λ k. allows T (left_of k) t.1 ≡ true) v.5 t.3) in (
          t.0,
          v.1,
          t.2,
          v.3,
          any_from (λ m. pair T G p t.0 m && pair T G q m v.1) G.universe v.0 (has_in x v.0 G.universe (pair_ends x G c q v.0 v.1 v.4).0)
              (and_from _ _ (subst (λ k. pair T G p t.0 k ≡ true) (sym z) t.4) v.4),
          w.2.2 ∙ ap₂ (λ i j. pair_row (left_of j) (right_of i)) v.5 t.5,
        )

    back_from : (d : Row A) → PathRow T G (sequence p q) o u d → (a : Row A) × PathRow T G q None u a × BackMakes a d
    back_from d w =
        let v = any_in (λ m. pair T G p w.0 m && pair T G q m w.1) G.universe w.4 in
        let t = and_parts (pair T G p w.0 v.0) (pair T G q v.0 w.1) v.2 in
        (both v.0 w.1, (v.0, w.1, refl, w.3, t.1, refl), (both w.0 v.0, (w.0, v.0, w.2, x.told v.0, t.0, refl), w.5))

    right_step_solves : (seen : List A) → Walks T G s q false r None u seen (walked T s ctx ◌∷◌ q false r None u seen)
        → ((m : A) → has T m G.universe ≡ true → (now : List A) → Walks T G s p l true o (Some m) now (walked T s ctx ◌∷◌ p l true o (Some m) now))
        → Walks T G s (sequence p q) l r o u seen
        (then (walked T s ctx ◌∷◌ q false r None u seen) (λ d. each_of T s ctx ◌∷◌ (λ m. walked T s ctx ◌∷◌ p l true o (left_of m)) (backward T s) d.1 [] d.0))
    right_step_solves seen h k =
        solves_same s (TooMany T G (path false r q None u) ⊎ (((a : Row A) × PathRow T G q None u a × TooMany T G (back_to a)) ⊎ Crowd Makes)) (TooMany T G (path l r (sequence p q) o u))
        (λ i. ReadAt T G (path false r q None u) i ⊎ ((a : Row A) × PathRow T G q None u a × ReadAt T G (back_to a) i)) (ReadAt T G (path l r (sequence p q) o u))
        (λ g. path_sum T G s q None u (λ a. path_sum T G s p o (left_of a) (λ b. g (pair_row (left_of b) (right_of a))))) (path_sum T G s (sequence p q) o u)
        Makes (PathRow T G (sequence p q) o u) seen seen
        (then (walked T s ctx ◌∷◌ q false r None u seen) (λ d. each_of T s ctx ◌∷◌ (λ m. walked T s ctx ◌∷◌ p l true o (left_of m)) (backward T s) d.1 [] d.0))
        (λ m. elim m [
          | inl n ↦ much_on (to_right_step e) n
          | inr n ↦ elim n [
            | inl d ↦ (let v = d.1 in much_on (from_right_step e v.0 v.1 v.3 v.4) (subst (λ t. TooMany T G (back_to t)) v.5 d.2))
            | inr d ↦ much_here (pairs (crowd_pairs T G (sequence p q) o u (crowd_more Makes _ back_into d)))
          ]
        ])
        (λ m. elim (much_split m) [
          | inl d ↦ elim d [ pairs t ↦ inr (inr (crowd_more _ Makes back_from (crowd_rows T G (sequence p q) o u t))) ]
          | inr d ↦ elim (after_right_step (TooMany T G) l r p q o u d.0 e d.1 d.2) [ inl t ↦ inl t | inr t ↦ inr (inl t) ]
        ])
        (λ i j. elim j [
          | inl m ↦ inl m
          | inr m ↦ inr (elim m [
            | inl d ↦ read_on (to_right_step e) d
            | inr d ↦ (let v = d.1 in read_on (from_right_step e v.0 v.1 v.3 v.4) (subst (λ t. ReadAt T G (back_to t) i) v.5 d.2))
          ])
        ])
        (λ i j. elim j [
          | inl m ↦ inl m
          | inr m ↦ elim (read_split m) [
            | inl d ↦ absurd (reads_sequence l r p q o u i d)
            | inr d ↦ inr (after_right_step (λ z. ReadAt T G z i) l r p q o u d.0 e d.1 d.2)
          ]
        ])
        (sum_sequence_right x G c.distinct f p q o u) back_into back_from
        (then_each x ctx f (λ m. walked T s ctx ◌∷◌ p l true o (left_of m)) (backward T s) (PathRow T G q None u) (λ a. TooMany T G (back_to a)) (λ a. ReadAt T G (back_to a))
        (λ a. path_sum T G s p o (left_of a)) (λ a. PathRow T G p o (left_of a)) (λ g a. path_sum T G s p o (left_of a) (λ b. g (pair_row (left_of b) (right_of a)))) BackMakes
        (λ a w now. subst (λ t. Walks T G s p l true o (left_of t) now (walked T s ctx ◌∷◌ p l true o (left_of t) now)) (sym w.5)
        (k w.0 (pair_ends x G c q w.0 w.1 w.4).0 now))
        (λ d w t C g. subst (Made s d.1 (λ n. path_sum T G s p o (left_of d.0) (λ b. n (pair_row (left_of b) (right_of d.0)))) (BackMakes d.0)) (sym (backward_imaged s T ctx d C))
        (imaged_made s f (λ b. pair_row (left_of b) (right_of d.0)) d.1 C (path_sum T G s p o (left_of d.0)) (PathRow T G p o (left_of d.0)) g
        (λ b i. let v = g.sound b i in subst Tidy (sym (ap₂ (λ n m. pair_row (left_of m) (right_of n)) w.5 v.5)) refl)))
        (TooMany T G (path false r q None u)) (ReadAt T G (path false r q None u)) (path_sum T G s q None u) seen (walked T s ctx ◌∷◌ q false r None u seen) h)
      where
        Makes : Row A → Type 0
        Makes d = (a : Row A) × PathRow T G q None u a × BackMakes a d

  -- ---- star

  by_either : {X : Type 0} (P : X → Type 0) (t : Bool) (a b : X) → (t ≡ true → P a) → (t ≡ false → P b) → P (cond t a b)
  by_either P true a b h i = h refl
  by_either P false a b h i = i refl

  star_solves : (p : Path A) (l r : Bool) (o u : Option A) → walkable (star p) l r ≡ true → Known T G l o → Known T G r u → (seen : List A)
      → (walkable p true false ≡ true → (m : A) → has T m G.universe ≡ true → (now : List A) → Walks T G s p true false (Some m) None now (walked T s ctx ◌∷◌ p true false (Some m) None now))
      → (walkable p false true ≡ true → (m : A) → has T m G.universe ≡ true → (now : List A) → Walks T G s p false true None (Some m) now (walked T s ctx ◌∷◌ p false true None (Some m) now))
      → Walks T G s (star p) l r o u seen (walked T s ctx ◌∷◌ (star p) l r o u seen)
  star_solves p l r o u w ko ku seen h k = by_either (Walks T G s (star p) l r o u seen) (from_left l p) _ _
      (λ e. let v = and_parts l (walkable p true false) e in left o ko e v.0 v.1)
      (λ e. let v = and_parts r (walkable p false true) (or_second (l && walkable p true false) (r && walkable p false true) w e) in right u ku e v.0 v.1)
    where
      left : (o : Option A) → Known T G l o → from_left l p ≡ true → l ≡ true → walkable p true false ≡ true → Walks T G s (star p) l r o u seen
          (then (closed T s ctx ◌∷◌ (λ q. walked T s ctx ◌∷◌ p true false (right_of q) None) (onward T s) 257 0 (itself T s o) seen)
          (λ d. Some (d.0, allowed T s right_of u d.1)))
      left None g e i j = clash i g
      left (Some a) g e i j = star_left_solves x G c f p l r e a g (h j) u seen

      right : (u : Option A) → Known T G r u → from_left l p ≡ false → r ≡ true → walkable p false true ≡ true → Walks T G s (star p) l r o u seen
          (then (closed T s ctx ◌∷◌ (λ q. walked T s ctx ◌∷◌ p false true None (left_of q)) (backward T s) 257 0 (itself T s u) seen)
          (λ d. Some (d.0, allowed T s left_of o d.1)))
      right None g e i j = clash i g
      right (Some b) g e i j = star_right_solves x G c f p l r e b g (k j) o seen

  -- ---- every path

  pub path_solves : (p : Path A) (l r : Bool) (o u : Option A) → walkable p l r ≡ true → Known T G l o → Known T G r u → (seen : List A)
      → Walks T G s p l r o u seen (walked T s ctx ◌∷◌ p l r o u seen)
  path_solves (link v) l r None u w ko ku seen = clash w ko
  path_solves (link v) l r (Some a) u w ko ku seen = link_solves x G c f v l r a u ko seen
  path_solves (negated vs) l r None u w ko ku seen = clash w ko
  path_solves (negated vs) l r (Some a) u w ko ku seen = negated_solves x G c f vs l r a u ko seen
  path_solves (inverse p) l r o u w ko ku seen = inverse_solves p l r o u seen (path_solves p r l u o w ku ko seen)
  path_solves (alternative p q) l r o u w ko ku seen =
      let v = and_parts (walkable p l r) (walkable q l r) w in
      alternative_solves p q l r o u seen (path_solves p l r o u v.0 ko ku seen) (λ now. path_solves q l r o u v.1 ko ku now)
  path_solves (sequence p q) l r o u w ko ku seen = by_either (Walks T G s (sequence p q) l r o u seen) (walkable p l false) _ _
      (λ e. let d = second_step p q l r w e in
      left_step_solves p q l r o u (and_from _ _ e d) seen (path_solves p l false o None e ko refl seen) (λ m h now. path_solves q true r (Some m) u d h ku now))
      (λ e. let v = or_second (walkable p l false && walkable q true r) (walkable q false r && walkable p l true) w (ap (λ t. t && walkable q true r) e) in
      let d = and_parts (walkable q false r) (walkable p l true) v in
      right_step_solves p q l r o u (ap (λ t. t && walkable q true r) e) seen (path_solves q false r None u d.0 refl ku seen)
      (λ m h now. path_solves p l true o (Some m) d.1 ko h now))
  path_solves (star p) l r o u w ko ku seen = star_solves p l r o u w ko ku seen
      (λ e m h now. path_solves p true false (Some m) None e h refl now) (λ e m h now. path_solves p false true None (Some m) e refl h now)
