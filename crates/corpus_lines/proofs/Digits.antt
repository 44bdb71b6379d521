-- Hex without capital letters: what `encode` writes.
use Rattle.std.proofs.Common.{◌≡◌, ℕ, zero, suc, ◌+◌, ◌-◌, ◌*◌, ◌/◌, ◌%◌, ◌<◌, Bool, true, false, not, ◌||◌, if◌then◌else◌, nat_lt, List, [], ◌∷◌, length, slice_index, Some, Ok, refl, sym, ap, ◌∙◌, arith}
use Rattle.std.specs.Char.{is_ascii_uppercase}
use Rattle.std.specs.List.{AllPass, list_any}
use Rattle.std.proofs.lemmas.List.Elements.{All-head, All-tail}
use Rattle.std.proofs.lemmas.List.Sums.{AllPass-from_list_all}
use Rattle.hex.specs.Hex.{IsBytes, decode_of, encode_lower, encode_with, hex_digit_value, is_hex_digit, lower_digits}
use Rattle.hex.proofs.HexLemmas.{IsDigits-lower_digits, decode_of-encode_lower, decode_of-ok, decode_of-same}

abbrev pub has_capital : List ℕ → Bool
has_capital word = list_any is_ascii_uppercase word

not_true : (b : Bool) → not b ≡ true → b ≡ false
not_true true h = cc h
not_true false h = refl

neither : (a b : Bool) → (a || b) ≡ false → (a ≡ false) × (b ≡ false)
neither true b h = cc h
neither false b h = (refl, h)

small : (d : ℕ) → d < 16 → is_ascii_uppercase (slice_index lower_digits d) ≡ false
small d lt = not_true (is_ascii_uppercase (slice_index lower_digits d)) (AllPass-from_list_all (λ c. not (is_ascii_uppercase c)) lower_digits refl d 0 lt)

-- a digit that is no capital letter, by its value
abbrev of_value : ℕ → ℕ
of_value v = if nat_lt v 10 then v + 48 else v + 87

has_value : (c v : ℕ) → is_ascii_uppercase c ≡ false → hex_digit_value c ≡ Some v → (v < 16) × (c ≡ of_value v)
has_value c v h e = (grind (arith), grind (arith))

abbrev value_of : ℕ → ℕ
value_of c = if nat_lt c 58 then c - 48 else c - 87

value : (c : ℕ) → is_hex_digit c ≡ true → is_ascii_uppercase c ≡ false → hex_digit_value c ≡ Some (value_of c)
value c e h = grind (arith)

-- it stands at its value in the table
digit : (c : ℕ) → is_hex_digit c ≡ true → is_ascii_uppercase c ≡ false → (v : ℕ) × (v < 16) × (slice_index lower_digits v ≡ c)
digit c e h =
    let v = value_of c in
    let here = has_value c v h (value c e h) in
    (v, here.0, (has_value (slice_index lower_digits v) v (small v here.0) (IsDigits-lower_digits v here.0)).1 ∙ sym here.1)

-- what some bytes are written as
pub has_capital-encode_lower : (bytes : List ℕ) → IsBytes bytes → has_capital (encode_lower bytes) ≡ false
unfolding encode_with
has_capital-encode_lower [] h = refl
has_capital-encode_lower (b ∷ rest) h =
    let fits : b < 256 = h 0 in
    let high = small (b / 16) (omega arith) in
    let low = small (b % 16) (omega arith) in
    let ih = has_capital-encode_lower rest (λ k. h (suc k)) in
    rw (high, low, ih) refl

is_bytes : (b : ℕ) (rest : List ℕ) → b < 256 → IsBytes rest → IsBytes (b ∷ rest)
is_bytes b rest h hs zero = h
is_bytes b rest h hs (suc i) = hs i

-- an even number of digits without capital letters is what some bytes are written as
written : (word : List ℕ) → length word % 2 ≡ 0 → AllPass is_hex_digit word → has_capital word ≡ false → (bytes : List ℕ) × IsBytes bytes × (word ≡ encode_lower bytes)
unfolding encode_with
written [] even d h = ([], (λ k. omega arith), refl)
written (a ∷ []) even d h = absurd (omega arith)
written (a ∷ b ∷ rest) even d h =
    let holds = λ (c : ℕ). is_hex_digit c ≡ true in
    let more = All-tail holds a (b ∷ rest) d in
    let first = neither (is_ascii_uppercase a) (has_capital (b ∷ rest)) h in
    let second = neither (is_ascii_uppercase b) (has_capital rest) first.1 in
    let x = digit a (All-head holds a (b ∷ rest) d) first.0 in
    let y = digit b (All-head holds b rest more) second.0 in
    let r = written rest (omega arith) (All-tail holds b rest more) second.1 in
    let high : (x.0 * 16 + y.0) / 16 ≡ x.0 = omega arith in
    let low : (x.0 * 16 + y.0) % 16 ≡ y.0 = omega arith in (
      (x.0 * 16 + y.0) ∷ r.0,
      is_bytes (x.0 * 16 + y.0) r.0 (omega arith) r.1,
      rw (high, low, x.2, y.2, ← r.2) refl,
    )

-- what decodes and has no capital letter is what these bytes are written as
pub spelled : (word bytes : List ℕ) → has_capital word ≡ false → decode_of word ≡ Ok bytes → word ≡ encode_lower bytes
spelled word bytes h e =
    let ok = decode_of-ok word bytes e in
    let r = written word ok.0 ok.1 h in
    let same : bytes ≡ r.0 = decode_of-same word bytes r.0 e (ap decode_of r.2 ∙ decode_of-encode_lower r.0 r.1) in
    r.2 ∙ ap encode_lower (sym same)
