-- IRI and negated lines: what reading one context gives.
use Rattle.std.proofs.Common.{◌≡◌, Bool, true, not, ◌&&◌, ◌⊎◌, List, [], ◌∷◌, Some, None, Option, sym, refl, ap, ◌∙◌, subst, ap₂, inl, inr}
use Rattle.std.proofs.lemmas.Bool.{and_parts, and_from}
use Rattle.weights.specs.Scales.{Scale, Fair}
use Rattle.grammar.specs.Syntax.{Path, link, negated}
use Rattle.semantics.specs.Terms.{Terms, Exact, any, has}
use Rattle.semantics.specs.Rows.{Row}
use Rattle.semantics.specs.Bags.{Bag, only}
use Rattle.semantics.specs.Graphs.{Graph, Closed, pair, weigh}
use Rattle.semantics.proofs.Lists.{any_in, any_from}
use Rattle.walks.specs.Plans.{allows, Asking, path, Leads, Reads, for_link, for_negated}
use Rattle.walks.specs.Crowds.{Crowd, Crowded, pairs, TooMany}
use Rattle.solving.specs.Solved.{then, left_of, right_of, spread, read_out, walked}
use Rattle.walks.proofs.Crowding.{crowd_more}
use Rattle.answering.proofs.Holding.{table_empty, holds_calm, Grown, ReadsRow, spread_grown}
use Rattle.answering.proofs.Folds.{Solves}
use Rattle.answering.proofs.PathSums.{both, PathRow, path_sum}
use Rattle.answering.proofs.Listings.{Of, plain_left}
use Rattle.answering.proofs.Asked.{ReadAt, much_here, read_here, much_split, read_split, after_link, after_negated, reads_link, reads_negated, crowd_along}

module _ {A : Type 0} (T : Terms A) (G : Graph A) where
  -- a pair between ends that may be fixed
  abbrev pub Between : Path A → Option A → Option A → A × A → Type 0
  Between p x y c = (allows T x c.0 ≡ true) × (allows T y c.1 ≡ true) × (pair T G p c.0 c.1 ≡ true)

  both_first : (a b c d : A) → both a b ≡ both c d → a ≡ c
  both_first a b c d e = let q : Some a ≡ Some c = ap left_of e in cc

  both_second : (a b c d : A) → both a b ≡ both c d → b ≡ d
  both_second a b c d e = let q : Some b ≡ Some d = ap right_of e in cc

  pub crowd_pairs : (p : Path A) (x y : Option A) → Crowd (PathRow T G p x y) → Crowd (Between p x y)
  crowd_pairs p x y c = crowd_along (PathRow T G p x y) (Between p x y) (λ r d. r ≡ both d.0 d.1)
      (λ r h. ((h.0, h.1), (h.2, h.3, h.4), h.5)) (λ r t d e f. e ∙ sym f) c

  pub crowd_rows : (p : Path A) (x y : Option A) → Crowd (Between p x y) → Crowd (PathRow T G p x y)
  crowd_rows p x y c = crowd_along (Between p x y) (PathRow T G p x y) (λ d r. r ≡ both d.0 d.1)
      (λ d h. (both d.0 d.1, (d.0, d.1, h.0, h.1, h.2, refl), refl))
      (λ d e r f g. ap₂ (λ a b. (a, b)) (both_first d.0 d.1 e.0 e.1 (sym f ∙ g)) (both_second d.0 d.1 e.0 e.1 (sym f ∙ g))) c

  -- how the outcome of a path is judged
  abbrev pub Walks : {K : Type 0} → Scale K → (p : Path A) (l r : Bool) (x y : Option A) → List A → Option (List A × Bag A K) → Type 0
  Walks s p l r x y seen o = Solves s (TooMany T G (path l r p x y)) (ReadAt T G (path l r p x y)) (path_sum T G s p x y) (PathRow T G p x y) seen o

module _ {A : Type 0} {T : Terms A} (x : Exact T) (G : Graph A) (c : Closed T G) {K : Type 0} {s : Scale K} (f : Fair s) where
  module _ (p : Path A) (ok : A → Bool) (unit : (a b : A) → weigh T G s p a b ≡ only s (pair T G p a b) s.one)
      (is : (a b : A) → pair T G p a b ≡ any (λ t. ok t.0 && T.same b t.1) (G.context a))
      (l r : Bool) (a : A) (y : Option A) (none : (z : Asking A) → Leads T G (path l r p (Some a) y) z → ⊥)
      (one : (i : A) → Reads (path l r p (Some a) y) i → i ≡ a) (it : Reads (path l r p (Some a) y) a)
      (out : Crowded T G (path l r p (Some a) y) → Crowd (Between T G p (Some a) y)) (h : has T a G.universe ≡ true) where
    abbrev RowOf : Row A → Type 0
    RowOf = Of x f (λ b. allows T y b && pair T G p a b) (both a)

    read_to : (q : Row A) → ⊥ ⊎ ReadsRow T ok a y (G.context a) q → RowOf q
    read_to q (inl i) = elim i [ ]
    read_to q (inr i) =
        (i.0.1, and_from _ _ i.3 (is a i.0.1 ∙ any_from (λ t. ok t.0 && T.same i.0.1 t.1) (G.context a) i.0 i.1 (and_from _ _ i.2 (x.told i.0.1))), i.4)

    read_from : (q : Row A) → RowOf q → ⊥ ⊎ ReadsRow T ok a y (G.context a) q
    read_from q (b, e, i) =
        let w = and_parts (allows T y b) (pair T G p a b) e in
        let v = any_in (λ t. ok t.0 && T.same b t.1) (G.context a) (sym (is a b) ∙ w.1) in
        let u = and_parts (ok v.0.0) (T.same b v.0.1) v.2 in
        let z = x.tells b v.0.1 u.1 in
        inr (v.0, v.1, u.0, subst (λ d. allows T y d ≡ true) z w.0, i ∙ ap (both a) z)

    row_path : (q : Row A) → RowOf q → PathRow T G p (Some a) y q
    row_path q (b, e, i) = let w = and_parts (allows T y b) (pair T G p a b) e in (a, b, x.told a, w.0, w.1, i)

    pub out_solves : (seen : List A) → Walks T G s p l r (Some a) y seen (read_out T s G.context ◌∷◌ ok (Some a) y seen)
    out_solves seen = go (spread T s ok a y (G.context a) []) (spread_grown x s G.context ok a y (G.context a) (λ q. ⊥) []
        (record { table = table_empty; ones = λ e i. elim i [ ]; sound = λ q i. i; complete = λ q i. i }))
      where
        go : (o : Option (Bag A K)) → Grown s [] (λ q. ⊥ ⊎ ReadsRow T ok a y (G.context a) q) o
            → Walks T G s p l r (Some a) y seen (then o (λ B. Some (a ∷ seen, B)))
        go None g = much_here (pairs (crowd_pairs T G p (Some a) y (crowd_more _ _ (λ q i. row_path q (read_to q i)) g)))
        go (Some B) g =
            let k = plain_left x G c f p unit a y h B (record {
              table = g.0.table;
              ones = g.0.ones;
              sound = λ q i. read_to q (g.0.sound q i);
              complete = λ q i. g.0.complete q (read_from q i);
            }) in
            record {
              holds = k;
              reads = λ i j. elim j [ inl e ↦ inr (subst (ReadAt T G (path l r p (Some a) y)) (sym e) (read_here it)) | inr e ↦ inl e ];
              kept = λ i j. elim j [
                | inl e ↦ inr e
                | inr e ↦ elim (read_split e) [ inl d ↦ inl (one i d) | inr d ↦ absurd (none d.0 d.1) ]
              ];
              calm = λ m. elim (much_split m) [
                | inl d ↦ holds_calm (path_sum T G s p (Some a) y) (PathRow T G p (Some a) y) B k (crowd_rows T G p (Some a) y (out d))
                | inr d ↦ none d.0 d.1
              ];
            }

  pub link_solves : (u : A) (l r : Bool) (a : A) (y : Option A) → has T a G.universe ≡ true → (seen : List A)
      → Walks T G s (link u) l r (Some a) y seen (walked T s G.context ◌∷◌ (link u) l r (Some a) y seen)
  link_solves u l r a y h seen = out_solves (link u) (λ q. T.same u q) (λ b d. refl) (λ b d. refl) l r a y
      (after_link {T = T} {G = G} (λ z. ⊥) l r u (Some a) y) (reads_link l r u a y) for_link (λ k. elim k [ pairs d ↦ d ]) h seen

  pub negated_solves : (us : List A) (l r : Bool) (a : A) (y : Option A) → has T a G.universe ≡ true → (seen : List A)
      → Walks T G s (negated us) l r (Some a) y seen (walked T s G.context ◌∷◌ (negated us) l r (Some a) y seen)
  negated_solves us l r a y h seen = out_solves (negated us) (λ q. not (has T q us)) (λ b d. refl) (λ b d. refl) l r a y
      (after_negated {T = T} {G = G} (λ z. ⊥) l r us (Some a) y) (reads_negated l r us a y) for_negated (λ k. elim k [ pairs d ↦ d ]) h seen
