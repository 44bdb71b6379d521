-- Where a line of exactly `==` stands, and that the first such line parts an input in one way.
use Rattle.std.proofs.Common.{◌≡◌, ℕ, ◌+◌, ◌-◌, ◌<◌, ◌≤◌, ◌⊎◌, List, [], ◌++◌, length, take, drop, sym, refl, ap, ◌∙◌, subst, inl, inr, arith}
use Rattle.std.proofs.lemmas.Bool.{cases_lt}
use Rattle.std.proofs.lemmas.List.{append_cancel_left, take-append-drop, length-append, length-take-le, take_at, take_rest}
use Rattle.input.specs.Parting.{BeginsLine, Opens, Line, Parted, OneParting}

-- ---- its bytes

pub opens_long : (rest pages : List ℕ) → Opens rest pages → 2 ≤ length rest
opens_long rest pages (inl e) = omega (arith, ap length e)
opens_long rest pages (inr (e, n)) = omega (arith, ap length e)

-- it opens the pages after it, and no others
pub opens_once : (rest pages p : List ℕ) → Opens rest pages → Opens rest p → pages ≡ p
opens_once rest pages p (inl e) (inl f) = cc
opens_once rest pages p (inl e) (inr (f, n)) = absurd (omega (arith, ap length e, ap length f))
opens_once rest pages p (inr (e, n)) (inl f) = absurd (omega (arith, ap length e, ap length f))
opens_once rest pages p (inr (e, n)) (inr (f, m)) = n ∙ sym m

-- ---- its place

pub line_front : (xs before pages : List ℕ) → Line xs before pages → take (length before) xs ≡ before
line_front xs before pages l = ap (take (length before)) l.split ∙ take_at before l.rest (length before) refl

pub line_fits : (xs before pages : List ℕ) → Line xs before pages → length before + 2 ≤ length xs
line_fits xs before pages l = omega (arith, opens_long l.rest pages l.opens, ap length l.split, length-append before l.rest)

-- the code takes the bytes from a place on as so many after that place
pub line_at : (xs : List ℕ) (i : ℕ) (pages : List ℕ) → BeginsLine (take i xs) → Opens (take (length xs - i) (drop i xs)) pages → Line xs (take i xs) pages
line_at xs i pages b o = record {
  begins = b;
  rest = drop i xs;
  split = sym (take-append-drop i xs);
  opens = subst (λ ys. Opens ys pages) (take_rest xs i) o;
}

pub no_line_at : (xs : List ℕ) (i : ℕ) → ((pages : List ℕ) → Opens (take (length xs - i) (drop i xs)) pages → ⊥) → (pages : List ℕ) → Line xs (take i xs) pages → ⊥
no_line_at xs i f pages l =
    let e : l.rest ≡ drop i xs = append_cancel_left (take i xs) l.rest (drop i xs) (sym l.split ∙ sym (take-append-drop i xs)) in
    f pages (subst (λ ys. Opens ys pages) (e ∙ sym (take_rest xs i)) l.opens)

-- no line begins before the place i
abbrev pub NoneBefore : List ℕ → ℕ → Type 0
NoneBefore xs i = (k : ℕ) → k < i → (pages : List ℕ) → Line xs (take k xs) pages → ⊥

pub not_before : (xs : List ℕ) (i : ℕ) → NoneBefore xs i → (before pages : List ℕ) → Line xs before pages → i ≤ length before
not_before xs i f before pages l = go (cases_lt (length before) i)
  where
    go : (length before < i) ⊎ (i ≤ length before) → i ≤ length before
    go (inl h) = absurd (f (length before) h pages (subst (λ q. Line xs q pages) (sym (line_front xs before pages l)) l))
    go (inr h) = h

-- ---- the parts

pub parted_at : (xs : List ℕ) (i : ℕ) (pages : List ℕ) → i ≤ length xs → NoneBefore xs i → Line xs (take i xs) pages → Parted xs (take i xs) pages
parted_at xs i pages h f l = inl (l, λ before after m. omega (arith, length-take-le i xs h, not_before xs i f before after m))

pub parted_whole : (xs : List ℕ) (i : ℕ) → length xs ≤ i → NoneBefore xs i → Parted xs xs []
parted_whole xs i h f = inr (refl, refl, λ before after m. omega (arith, not_before xs i f before after m, line_fits xs before after m))

same_front : (xs before b pages p : List ℕ) → Line xs before pages → Line xs b p → length before ≡ length b → before ≡ b
same_front xs before b pages p l m e = sym (line_front xs before pages l) ∙ ap (λ n. take n xs) e ∙ line_front xs b p m

same_pages : (xs before b pages p : List ℕ) → Line xs before pages → Line xs b p → before ≡ b → pages ≡ p
same_pages xs before b pages p l m e =
    let r : l.rest ≡ m.rest = append_cancel_left before l.rest m.rest (sym l.split ∙ m.split ∙ ap (λ q. q ++ m.rest) (sym e)) in
    opens_once m.rest pages p (subst (λ ys. Opens ys pages) r l.opens) m.opens

pub one_parting : OneParting
one_parting xs question pages q p (inl (l, first)) (inl (m, f)) =
    let n : length question ≡ length q = omega (arith, first q p m, f question pages l) in
    let e : question ≡ q = same_front xs question q pages p l m n in
    (e, same_pages xs question q pages p l m e)
one_parting xs question pages q p (inl (l, first)) (inr (e, n, none)) = absurd (none question pages l)
one_parting xs question pages q p (inr (e, n, none)) (inl (m, f)) = absurd (none q p m)
one_parting xs question pages q p (inr (e, n, none)) (inr (d, m, f)) = (e ∙ sym d, n ∙ sym m)
