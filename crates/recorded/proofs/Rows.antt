-- The possible rows of a question end in a term, so two that give the same are one.
use Rattle.std.proofs.Common.{◌≡◌, ℕ, zero, suc, Bool, true, ◌&&◌, [], ◌∷◌, is_some, Some, None, Option, refl, ap, ◌∙◌, ap₂, inl, inr}
use Rattle.std.proofs.lemmas.Bool.{and_parts}
use Rattle.grammar.specs.Syntax.{End, constant, variable, Pattern, empty, line, and, union, opt}
use Rattle.semantics.specs.Terms.{Terms, Exact, In}
use Rattle.semantics.specs.Rows.{Row, single, merge, same_at, same_row}
use Rattle.semantics.specs.Graphs.{Graph, pair}
use Rattle.semantics.specs.Meaning.{end_row, stand, merges, possible}
use Rattle.semantics.proofs.Lists.{clash, in_either, in_gather}
use Rattle.semantics.proofs.Possible.{in_one, in_merges}

-- it ends in a term
abbrev pub ended : {A : Type 0} → Row A → Bool
ended [] = true
ended (o ∷ []) = is_some o
ended (o ∷ u ∷ r) = ended (u ∷ r)

module _ {A : Type 0} where
  merge_ended : (a b : Row A) → ended a ≡ true → ended b ≡ true → ended (merge a b) ≡ true
  merge_ended [] b h k = k
  merge_ended (o ∷ a) [] h k = h
  merge_ended (None ∷ []) (u ∷ b) h k = clash h refl
  merge_ended (Some x ∷ []) (u ∷ []) h k = refl
  merge_ended (Some x ∷ []) (u ∷ w ∷ b) h k = k
  merge_ended (o ∷ v ∷ a) (u ∷ []) h k = h
  merge_ended (o ∷ v ∷ a) (u ∷ w ∷ b) h k = merge_ended (v ∷ a) (w ∷ b) h k

  single_ended : (v : ℕ) (a : A) → ended (single v a) ≡ true
  single_ended zero a = refl
  single_ended (suc zero) a = refl
  single_ended (suc (suc v)) a = single_ended (suc v) a

  end_ended : (e : End A ℕ) (a : A) → ended (end_row e a) ≡ true
  end_ended (constant t) a = refl
  end_ended (variable v) a = single_ended v a

  rest_ended : (o : Option A) (a : Row A) → ended (o ∷ a) ≡ true → ended a ≡ true
  rest_ended o [] h = refl
  rest_ended o (u ∷ a) h = h

module _ {A : Type 0} (T : Terms A) (G : Graph A) where
  pub possible_ended : (p : Pattern A ℕ) (a : Row A) → In a (possible T G p) → ended a ≡ true
  possible_ended empty a (inl e) = ap ended e
  possible_ended empty a (inr i) = elim i [ ]
  possible_ended (line e p f) a i =
      let s = in_gather _ G.universe a i in
      let t = in_gather _ G.universe a s.2 in
      let c = in_one (stand T e f s.0 t.0 && pair T G p s.0 t.0) (merge (end_row e s.0) (end_row f t.0)) a t.2 in
      ap ended c.1 ∙ merge_ended (end_row e s.0) (end_row f t.0) (end_ended e s.0) (end_ended f t.0)
  possible_ended (and p q) a i =
      let s = in_merges T (possible T G p) (possible T G q) a i in
      ap ended s.5 ∙ merge_ended s.0 s.1 (possible_ended p s.0 s.2) (possible_ended q s.1 s.3)
  possible_ended (union p q) a i =
      elim (in_either a (possible T G p) (possible T G q) i) [
        | inl j ↦ possible_ended p a j
        | inr j ↦ possible_ended q a j
      ]
  possible_ended (opt p q) a i =
      elim (in_either a (merges T (possible T G p) (possible T G q)) (possible T G p) i) [
        | inl j ↦ (let s = in_merges T (possible T G p) (possible T G q) a j in
            ap ended s.5 ∙ merge_ended s.0 s.1 (possible_ended p s.0 s.2) (possible_ended q s.1 s.3))
        | inr j ↦ possible_ended p a j
      ]

module _ {A : Type 0} {T : Terms A} (x : Exact T) where
  right_gives : (o : Option A) (a : Row A) → ended (o ∷ a) ≡ true → same_row T [] (o ∷ a) ≡ true → ⊥
  right_gives None [] h e = clash h refl
  right_gives (Some b) [] h e = clash e refl
  right_gives o (u ∷ a) h e = right_gives u a h (and_parts (same_at T None o) _ e).1

  left_gives : (o : Option A) (a : Row A) → ended (o ∷ a) ≡ true → same_row T (o ∷ a) [] ≡ true → ⊥
  left_gives None [] h e = clash h refl
  left_gives (Some b) [] h e = clash e refl
  left_gives o (u ∷ a) h e = left_gives u a h (and_parts (same_at T o None) _ e).1

  slot_is : (o u : Option A) → same_at T o u ≡ true → o ≡ u
  slot_is None None e = refl
  slot_is None (Some b) e = clash e refl
  slot_is (Some a) None e = clash e refl
  slot_is (Some a) (Some b) e = ap Some (x.tells a b e)

  pub row_is : (a b : Row A) → ended a ≡ true → ended b ≡ true → same_row T a b ≡ true → a ≡ b
  row_is [] [] h k e = refl
  row_is [] (u ∷ b) h k e = absurd (right_gives u b k e)
  row_is (o ∷ a) [] h k e = absurd (left_gives o a h e)
  row_is (o ∷ a) (u ∷ b) h k e =
      let d = and_parts (same_at T o u) (same_row T a b) e in
      ap₂ ◌∷◌ (slot_is o u d.0) (row_is a b (rest_ended o a h) (rest_ended u b k) d.1)
