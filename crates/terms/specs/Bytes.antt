-- Which bytes may stand in a term, in a word, and between tokens. A byte is a number below 256.
use Rattle.std.specs.Prelude.{ℕ, Bool, false, not, ◌&&◌, ◌||◌, List, [], ◌∷◌, ◌==◌, nat_le}
use Rattle.std.specs.List.{list_any}

abbrev pub between : ℕ → ℕ → ℕ → Bool
between low high b = nat_le low b && nat_le b high

abbrev pub one_of : List ℕ → ℕ → Bool
one_of cs b = list_any (λ c. b == c) cs

-- the first byte is c
abbrev pub leads : ℕ → List ℕ → Bool
leads c [] = false
leads c (b ∷ bs) = b == c

-- space, tab, LF, CR
abbrev pub blank_byte : ℕ → Bool
blank_byte b = one_of (32 ∷ 9 ∷ 10 ∷ 13 ∷ []) b

-- 0x21 to 0x7E and 0x80 to 0xFF, without < > " { } | ^ \ and the backquote
abbrev pub iri_byte : ℕ → Bool
iri_byte b = (between 33 126 b || between 128 255 b) && not (one_of (60 ∷ 62 ∷ 34 ∷ 123 ∷ 125 ∷ 124 ∷ 94 ∷ 92 ∷ 96 ∷ []) b)

-- 0x20 to 0x7E and 0x80 to 0xFF, without " and \
abbrev pub literal_byte : ℕ → Bool
literal_byte b = (between 32 126 b || between 128 255 b) && not (one_of (34 ∷ 92 ∷ []) b)

-- an ASCII letter, a digit or an underscore
abbrev pub word_byte : ℕ → Bool
word_byte b = between 97 122 b || between 65 90 b || between 48 57 b || b == 95
