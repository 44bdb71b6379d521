-- Bytes that are written piece by piece.
use Rattle.std.proofs.Common.{◌≡◌, ℕ, ◌+◌, ◌-◌, ◌^◌, ◌<◌, ◌≤◌, min, List, [], ◌∷◌, ◌++◌, length, get_or, take, drop, sym, refl, ap, ap₂, ◌∙◌, append_assoc, arith, length-append}
use Rattle.std.specs.List.{flat_map}
use Rattle.std.proofs.lemmas.List.{length-take-le, length-drop, take-append-drop, take_at, drop_at, drop-drop, take_more, flat_map_more}
use Rattle.listing.specs.Text.{joined, line}
use Rattle.listing.specs.Written.{laid, Puts, tabbed}

-- what was written lies between what was there
split : (x : List ℕ) (at : ℕ) (a : List ℕ) → laid x at a ≡ (take at a ++ x) ++ drop (at + length x) a
split x at a = sym (append_assoc (take at a) x (drop (at + length x) a))

front : (x : List ℕ) (at : ℕ) (a : List ℕ) → at + length x ≤ length a → length (take at a ++ x) ≡ at + length x
front x at a h = omega (arith, length-append (take at a) x, length-take-le at a (omega arith))

size : (x : List ℕ) (at : ℕ) (a : List ℕ) → at + length x ≤ length a → length (laid x at a) ≡ length a
size x at a h = omega (arith, ap length (split x at a), length-append (take at a ++ x) (drop (at + length x) a), front x at a h, length-drop (at + length x) a)

-- one piece behind another
both : (x y : List ℕ) (at m : ℕ) (a : List ℕ) → m ≡ at + length x → at + length x ≤ length a → laid y m (laid x at a) ≡ laid (x ++ y) at a
both x y at m a e h =
    let l : length (take at a ++ x) ≡ m = front x at a h ∙ sym e in
    let r = drop (at + length x) a in
    let first : take m (laid x at a) ≡ take at a ++ x = ap (take m) (split x at a) ∙ take_at (take at a ++ x) r m l in
    let rest : drop m (laid x at a) ≡ r = ap (drop m) (split x at a) ∙ drop_at (take at a ++ x) r m l in
    let n : at + length x + length y ≡ at + length (x ++ y) = omega (arith, length-append x y) in
    let last : drop (m + length y) (laid x at a) ≡ drop (at + length (x ++ y)) a =
    sym (drop-drop (length y) m (laid x at a)) ∙ ap (drop (length y)) rest ∙ drop-drop (length y) (at + length x) a ∙ ap (λ k. drop k a) n in
    ap₂ (λ (p q : List ℕ). p ++ (y ++ q)) first last
    ∙ append_assoc (take at a) x (y ++ drop (at + length (x ++ y)) a)
    ∙ ap (λ l. take at a ++ l) (sym (append_assoc x y (drop (at + length (x ++ y)) a)))

pub then : {x y : List ℕ} {at m n : ℕ} {a b c : List ℕ} → Puts x at a m b → Puts y m b n c → Puts (x ++ y) at a n c
then {x} {y} {at} {m} {n} {a} {b} {c} p q = record {
  place = omega (arith, p.place, q.place, length-append x y);
  wrote = λ h few.
      let fits : at + length x ≤ length a = omega (arith, h, length-append x y) in
      let here : m ≡ at + length x = omega (arith, p.place, fits, few) in
      let is : b ≡ laid x at a = p.wrote fits few in
      let same : length b ≡ length a = ap length is ∙ size x at a fits in
      let more : m + length y ≤ length b = omega (arith, here, same, h, length-append x y) in
      q.wrote more (omega (arith, same, few)) ∙ ap (laid y m) is ∙ both x y at m a here fits;
}

pub puts_as : {x y : List ℕ} {at m : ℕ} {a b : List ℕ} → x ≡ y → Puts x at a m b → Puts y at a m b
puts_as {x} {y} {at} {m} {a} {b} e p = record {
  place = p.place ∙ ap (λ (l : List ℕ). min (at + length l) (2 ^ 64 - 1)) e;
  wrote = λ h few. p.wrote (omega (arith, h, ap length e)) few ∙ ap (λ l. laid l at a) e;
}

pub nothing : (at : ℕ) (a : List ℕ) → at < 2 ^ 64 → Puts [] at a at a
nothing at a h = record {
  place = omega (arith, h);
  wrote = λ fits few.
      let n : at + 0 ≡ at = omega arith in
      sym (ap (λ k. take at a ++ drop k a) n ∙ take-append-drop at a);
}

-- the text of one item more
pub item_more : {X : Type 0} (f : X → List ℕ) (xs : List X) (i : ℕ) (d : X) → i < length xs → flat_map f (take i xs) ++ f (get_or xs i d) ≡ flat_map f (take (i + 1) xs)
item_more f xs i d h = flat_map_more f [] (take i xs) (get_or xs i d) ∙ ap (flat_map f) (sym (take_more xs i d h))

-- ---- lines

joined_more : (x : List ℕ) (xs : List (List ℕ)) (last : List ℕ) → joined (x ∷ (xs ++ last ∷ [])) ≡ x ++ 9 ∷ joined (xs ++ last ∷ [])
joined_more x [] last = refl
joined_more x (y ∷ ys) last = refl

-- tab stands behind each part but the last
pub line_is : (xs : List (List ℕ)) (last : List ℕ) → flat_map tabbed xs ++ (last ++ 10 ∷ []) ≡ line (xs ++ last ∷ [])
line_is [] last = refl
line_is (x ∷ xs) last =
    let j = joined (xs ++ last ∷ []) in
    append_assoc (tabbed x) (flat_map tabbed xs) (last ++ 10 ∷ [])
    ∙ ap (λ l. tabbed x ++ l) (line_is xs last)
    ∙ append_assoc x (9 ∷ []) (j ++ 10 ∷ [])
    ∙ sym (append_assoc x (9 ∷ j) (10 ∷ []))
    ∙ ap (λ l. l ++ 10 ∷ []) (sym (joined_more x xs last))
