-- What the first bytes of an input settle of its question.
use Rattle.std.proofs.Common.{◌≡◌, ℕ, ◌+◌, ◌-◌, ◌<◌, ◌≤◌, ◌⊎◌, List, ◌++◌, length, take, drop, codes, sym, refl, ap, ◌∙◌, subst, inl, inr, append_assoc, arith}
use lib.Seq.{take-append-add}
use Rattle.std.proofs.lemmas.Bool.{cases_lt}
use Rattle.std.proofs.lemmas.List.{take-append-drop, length-append, length-take-le, take_all}
use Rattle.input.specs.Parting.{Opens, Line, Parted, FrontSettles, FrontSettlesPages}
use Rattle.input.proofs.Lines.{line_front, one_parting}

-- the front of a longer input, of n bytes
module _ (xs : List ℕ) (n : ℕ) (longer : n < length xs) where
  front_length : length (take n xs) ≡ n
  front_length = length-take-le n xs (omega arith)

  -- a line that its LF ends within the front is a line of the input
  line_goes_on : (before pages : List ℕ) → Line (take n xs) before pages → length before + 2 < n → Line xs before (pages ++ drop n xs)
  line_goes_on before pages l h = go l.opens
    where
      go : Opens l.rest pages → Line xs before (pages ++ drop n xs)
      go (inl e) = record {
        begins = l.begins;
        rest = l.rest ++ drop n xs;
        split = sym (take-append-drop n xs) ∙ ap (λ ys. ys ++ drop n xs) l.split ∙ append_assoc before l.rest (drop n xs);
        opens = inl (ap (λ ys. ys ++ drop n xs) e);
      }
      go (inr (e, m)) = absurd (omega (arith, front_length, ap length l.split, length-append before l.rest, ap length e))

  -- and the other way round
  line_is_kept : (before pages : List ℕ) → Line xs before pages → length before + 2 < n → (p : List ℕ) × Line (take n xs) before p
  line_is_kept before pages l h = go l.opens
    where
      go : Opens l.rest pages → (p : List ℕ) × Line (take n xs) before p
      go (inl e) =
          let k : ℕ = n - (length before + 3) in
          let s : n ≡ length before + (3 + k) = omega arith in (
            take k pages,
            record {
              begins = l.begins;
              rest = codes "==\n" ++ take k pages;
              split =
                  ap (take n) (l.split ∙ ap (λ ys. before ++ ys) e) ∙ ap (λ i. take i (before ++ (codes "==\n" ++ pages))) s
                  ∙ take-append-add before (codes "==\n" ++ pages) (3 + k) ∙ ap (λ ys. before ++ ys) (take-append-add (codes "==\n") pages k);
              opens = inl refl;
            },
          )
      go (inr (e, m)) = absurd (omega (arith, ap length l.split, length-append before l.rest, ap length e))

  settled_within : (limit : ℕ) (question pages q p : List ℕ) → n ≡ limit + 3 → length question ≤ limit → Parted xs question pages → Parted (take n xs) q p → question ≡ q
  settled_within limit question pages q p k h (inr (e, m, none)) _ = absurd (omega (arith, ap length e))
  settled_within limit question pages q p k h (inl (l, first)) (inr (e, m, none)) =
      let kept = line_is_kept question pages l (omega arith) in
      absurd (none question kept.0 kept.1)
  settled_within limit question pages q p k h (inl (l, first)) (inl (m, f)) =
      let kept = line_is_kept question pages l (omega arith) in
      let a : length q ≤ length question = f question kept.0 kept.1 in
      let back = line_goes_on q p m (omega arith) in
      let b : length question ≤ length q = first q (p ++ drop n xs) back in
      let c : length question ≡ length q = omega arith in
      sym (line_front xs question pages l) ∙ ap (λ i. take i xs) c ∙ line_front xs q (p ++ drop n xs) back

  settled_beyond : (limit : ℕ) (question pages q p : List ℕ) → n ≡ limit + 3 → limit < length question → Parted xs question pages → Parted (take n xs) q p → limit < length q
  settled_beyond limit question pages q p k h _ (inr (e, m, none)) = omega (arith, ap length e, front_length)
  settled_beyond limit question pages q p k h whole (inl (m, f)) = go whole (cases_lt limit (length q))
    where
      go : Parted xs question pages → (limit < length q) ⊎ (length q ≤ limit) → limit < length q
      go _ (inl y) = y
      go (inl (l, first)) (inr y) = omega (arith, first q (p ++ drop n xs) (line_goes_on q p m (omega arith)))
      go (inr (e, d, none)) (inr y) = absurd (none q (p ++ drop n xs) (line_goes_on q p m (omega arith)))

  -- of pages that go on behind the front, it has more than there may be
  pages_go_on : (limit most : ℕ) (question pages p : List ℕ) → n ≡ limit + most + 4 → length question ≤ limit → Parted xs question pages → Parted (take n xs) question p → (most < length pages) × (most < length p)
  pages_go_on limit most question pages p k h whole (inr (e, m, none)) = absurd (omega (arith, ap length e, front_length))
  pages_go_on limit most question pages p k h whole (inl (l, f)) =
      let back = line_goes_on question p l (omega arith) in
      let same : pages ≡ p ++ drop n xs = (one_parting xs question pages question (p ++ drop n xs) whole (inl (back, first whole))).1 in
      let long = long_enough l.opens in
      (omega (arith, ap length same, length-append p (drop n xs), long), long)
    where
      first : Parted xs question pages → (before after : List ℕ) → Line xs before after → length question ≤ length before
      first (inl (w, least)) before after b = least before after b
      first (inr (e, d, none)) before after b = absurd (none before after b)

      long_enough : Opens l.rest p → most < length p
      long_enough (inl e) = omega (arith, front_length, ap length l.split, length-append question l.rest, ap length e, length-append (codes "==\n") p)
      long_enough (inr (e, m)) = absurd (omega (arith, front_length, ap length l.split, length-append question l.rest, ap length e))

pub front_settles_pages : FrontSettlesPages
front_settles_pages limit most xs question pages p h whole front = go (cases_lt (limit + most + 4) (length xs))
  where
    go : (limit + most + 4 < length xs) ⊎ (length xs ≤ limit + most + 4) → (pages ≡ p) ⊎ ((most < length pages) × (most < length p))
    go (inl longer) = inr (pages_go_on xs (limit + most + 4) longer limit most question pages p refl h whole front)
    go (inr short) = inl (one_parting xs question pages question p whole (subst (λ ys. Parted ys question p) (take_all (limit + most + 4) xs short) front)).1

pub front_settles : FrontSettles
front_settles limit xs question pages q p whole front = go (cases_lt (limit + 3) (length xs)) (cases_lt limit (length question))
  where
    go : (limit + 3 < length xs) ⊎ (length xs ≤ limit + 3) → (limit < length question) ⊎ (length question ≤ limit) → (question ≡ q) ⊎ ((limit < length question) × (limit < length q))
    go (inl longer) (inl h) = inr (h, settled_beyond xs (limit + 3) longer limit question pages q p refl h whole front)
    go (inl longer) (inr h) = inl (settled_within xs (limit + 3) longer limit question pages q p refl h whole front)
    go (inr short) _ = inl (one_parting xs question pages q p whole (subst (λ ys. Parted ys q p) (take_all (limit + 3) xs short) front)).0
