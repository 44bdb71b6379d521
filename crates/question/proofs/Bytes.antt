-- Parts of a text, and names among others.
use Rattle.std.proofs.Common.{◌≡◌, ℕ, suc, ◌+◌, ◌-◌, min, Bool, true, false, cond, not, ◌&&◌, ◌||◌, eqb, ltb, List, [], ◌∷◌, map, length, get_or, take, drop, Some, None, Option, sym, refl, ap, ◌∙◌, subst, inl, inr, arith, length-drop, lt-ltb, le-ltb, ltb-true, ltb-false}
use lib.ListN.{length-map}
use Rattle.std.proofs.lemmas.List.{take_all, drop_all, get_or-map}
use Rattle.std.proofs.lemmas.List.Sums.{passes_at_first}
use Rattle.std.proofs.lemmas.Slice.Eq.{bytes_eq-Decides}
use Rattle.std.specs.List.{position, position_or_len}
use Rattle.std.specs.Str.{bytes_eq}
use Rattle.std.proofs.str.Laws.{order}
use Rattle.tokens.specs.Lexed.{part, same_bytes}
use Rattle.grammar.specs.Grammar.{Name}
use Rattle.grammar.specs.Limits.{known}
use Rattle.question.specs.declared.span.Span.{Span}
use Rattle.question.specs.Arena.{name_of}
use Rattle.question.specs.Views.{Stands}

-- a part beyond the text's end is as long as the text goes
pub part_within : (text : List ℕ) (s e m n : ℕ) → m ≡ min e (length text) → n ≡ min s m → take (m - n) (drop n text) ≡ part text s e
part_within text s e m n hm hn =
    elim (order s (length text)) [
      | inl h ↦ elim (order e (length text)) [
        | inl g ↦ (elim (order e s) [
          | inl f ↦ (let x : m - n ≡ 0 = omega arith in let y : e - s ≡ 0 = omega arith in ap (λ k. take k (drop n text)) x ∙ sym (ap (λ k. take k (drop s text)) y))
          | inr f ↦ (let x : m ≡ e = omega arith in let y : n ≡ s = omega arith in λ i. take (x i - y i) (drop (y i) text))
        ])
        | inr g ↦ (let y : n ≡ s = omega arith in
            ap (λ k. take (m - k) (drop k text)) y ∙ take_all (m - s) (drop s text) (omega (arith, length-drop s text)) ∙ sym (take_all (e - s) (drop s text) (omega (arith, length-drop s text))))
      ]
      | inr h ↦ (let x : m - n ≡ 0 = omega arith in
          ap (λ k. take k (drop n text)) x ∙ sym (ap (take (e - s)) (drop_all s text h) ∙ take_all (e - s) [] (omega arith)))
    ]

-- the definitions' test of two names is the library's
same_as : (xs ys : List ℕ) → same_bytes xs ys ≡ bytes_eq xs ys
same_as [] [] = refl
same_as [] (y ∷ ys) = refl
same_as (x ∷ xs) [] = refl
same_as (x ∷ xs) (y ∷ ys) = ap (λ b. eqb x y && b) (same_as xs ys)

-- ---- a name among others

-- the place of a name
abbrev pub Finds : Name → List Name → Option ℕ → Type 0
Finds x ys None = known x ys ≡ false
Finds x ys (Some i) = (known x ys ≡ true) × Stands ys i x

module _ (x : Name) (text : List ℕ) where
  abbrev is_it : Span → Bool
  is_it s = bytes_eq x (name_of text s)

  or_later : (b k : Bool) (n m : ℕ) → k ≡ ltb n m → b || k ≡ ltb (cond (not b) (1 + n) 0) (suc m)
  or_later true k n m e = sym (lt-ltb 0 (suc m) (omega arith))
  or_later false true n m e = let h = ltb-true n m (sym e) in sym (lt-ltb (1 + n) (suc m) (omega arith))
  or_later false false n m e = let h = ltb-false n m (sym e) in sym (le-ltb (1 + n) (suc m) (omega arith))

  known_at : (ss : List Span) → known x (map (name_of text) ss) ≡ ltb (position_or_len is_it ss) (length ss)
  known_at [] = refl
  known_at (s ∷ ss) =
      ap (λ b. b || known x (map (name_of text) ss)) (same_as x (name_of text s)) ∙ or_later (is_it s) (known x (map (name_of text) ss)) (position_or_len is_it ss) (length ss) (known_at ss)

  finds : (ss : List Span) → Finds x (map (name_of text) ss) (position (λ s. bytes_eq x (name_of text s)) ss)
  finds ss = go (ltb (position_or_len is_it ss) (length ss)) refl
    where
      go : (b : Bool) → ltb (position_or_len is_it ss) (length ss) ≡ b → Finds x (map (name_of text) ss) (cond b (Some (position_or_len is_it ss)) None)
      go false e = known_at ss ∙ e
      go true e =
          let i = position_or_len is_it ss in
          let d : Span = record { start = 0; end = 0 } in
          let h = ltb-true i (length ss) e in (
            known_at ss ∙ e,
            record {
              within = omega (arith, length-map ss (name_of text));
              is = λ o. get_or-map (name_of text) ss i d o h ∙ sym ((bytes_eq-Decides x (name_of text (get_or ss i d))).0 (passes_at_first is_it ss d h));
            },
          )

  pub found : (ss : List Span) (r : Option ℕ) → r ≡ position (λ s. bytes_eq x (name_of text s)) ss → Finds x (map (name_of text) ss) r
  found ss r e = subst (Finds x (map (name_of text) ss)) (sym e) (finds ss)
