-- What it is for bytes to be tokens with blanks between them. A text has one such layout, which `tokens` finds.
use Rattle.std.specs.Prelude.{◌≡◌, ℕ, ◌+◌, Bool, true, false, ◌⊎◌, List, [], ◌∷◌, ◌++◌, length, codes}
use Rattle.std.specs.List.{list_all}
use Rattle.terms.specs.Bytes.{blank_byte, iri_byte, literal_byte, word_byte}
use Rattle.tokens.specs.Words.{Word, iri, literal, name, open_brace, close_brace, open_paren, close_paren, dot, bar, slash, caret, star, bang, optional, union, wrong, end}
use Rattle.tokens.specs.Lexed.{Spot, tokens}

-- there is a byte
abbrev pub Filled : List ℕ → Type 0
Filled [] = ⊥
Filled (b ∷ bs) = Unit {0}

-- the first byte, if there is one, does not pass
abbrev pub Stops : (ℕ → Bool) → List ℕ → Type 0
Stops p [] = Unit {0}
Stops p (b ∷ bs) = p b ≡ false

-- body is the word as it is written before rest. A name or a keyword is a whole word: no byte of a word follows it
abbrev pub Spells : Word → List ℕ → List ℕ → Type 0
Spells (iri x) body rest = (body ≡ codes "<" ++ (x ++ codes ">")) × Filled x × (list_all iri_byte x ≡ true)
Spells (literal x) body rest = (body ≡ codes "\"" ++ (x ++ codes "\"")) × (list_all literal_byte x ≡ true)
Spells (name x) body rest = (body ≡ codes "?" ++ x) × Filled x × (list_all word_byte x ≡ true) × Stops word_byte rest
Spells optional body rest = (body ≡ codes "OPTIONAL") × Stops word_byte rest
Spells union body rest = (body ≡ codes "UNION") × Stops word_byte rest
Spells open_brace body rest = body ≡ codes "{"
Spells close_brace body rest = body ≡ codes "}"
Spells open_paren body rest = body ≡ codes "("
Spells close_paren body rest = body ≡ codes ")"
Spells dot body rest = body ≡ codes "."
Spells bar body rest = body ≡ codes "|"
Spells slash body rest = body ≡ codes "/"
Spells caret body rest = body ≡ codes "^"
Spells star body rest = body ≡ codes "*"
Spells bang body rest = body ≡ codes "!"
Spells wrong body rest = ⊥
Spells end body rest = ⊥

-- the bytes begin neither with a blank nor with a word
abbrev pub Stray : List ℕ → Type 0
Stray bs = Filled bs × Stops blank_byte bs × ((x : Word) (body rest : List ℕ) → bs ≡ body ++ rest → Spells x body rest → ⊥)

-- the bytes bs, which begin at the offset i, are these tokens with blanks between. The last token is the end, or wrong where bytes are stray
abbrev pub Laid : ℕ → List ℕ → List Spot → Type 0
Laid i bs [] = ⊥
Laid i bs (s ∷ v) =
    (gap : List ℕ) × (tail : List ℕ) × (bs ≡ gap ++ tail) × (list_all blank_byte gap ≡ true) × (s.at ≡ i + length gap)
    × (((s.word ≡ end) × (tail ≡ []) × (v ≡ []))
    ⊎ ((s.word ≡ wrong) × Stray tail × (v ≡ []))
    ⊎ ((body : List ℕ) × (rest : List ℕ) × (tail ≡ body ++ rest) × Spells s.word body rest × Laid (s.at + length body) rest v))

abbrev pub EveryTextIsLaid : Type 0
EveryTextIsLaid = (text : List ℕ) → Laid 0 text (tokens text)

abbrev pub LaidOnce : Type 0
LaidOnce = (i : ℕ) (bs : List ℕ) (v u : List Spot) → Laid i bs v → Laid i bs u → v ≡ u
