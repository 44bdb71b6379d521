-- How bytes are cut into tokens, each with the offset of its first byte. Tokens are as long as they can be.
use Rattle.std.specs.Prelude.{◌≡◌, ℕ, zero, suc, ◌+◌, ◌-◌, ◌<◌, ◌≤◌, Bool, true, false, cond, not, ◌&&◌, List, [], ◌∷◌, length, take, take_while, drop, codes, ◌==◌}
use Rattle.std.specs.Str.{bytes_eq}
use Rattle.terms.specs.Bytes.{blank_byte, iri_byte, leads, literal_byte, word_byte}
use Rattle.tokens.specs.declared.token.Token.{Token}
use Rattle.tokens.specs.declared.token.Token.TheVariants.{Iri, Literal, Variable, OpenBrace, CloseBrace, OpenParen, CloseParen, Dot, Bar, Slash, Caret, Star, Bang, Optional, Union, Wrong, End}
use Rattle.tokens.specs.declared.token.Lexeme.{Lexeme}
use Rattle.tokens.specs.Words.{Word, iri, literal, name, open_brace, close_brace, open_paren, close_paren, dot, bar, slash, caret, star, bang, optional, union, wrong, end, saying}

abbrev pub is_nil : List ℕ → Bool
is_nil [] = true
is_nil (b ∷ bs) = false

-- the library's word for it
abbrev pub same_bytes : List ℕ → List ℕ → Bool
same_bytes = bytes_eq

-- a word, and how many bytes of the text it takes
pub record Piece : Type 0 where
  pub word : Word
  pub size : ℕ

abbrev pub piece : Word → ℕ → Piece
piece x n = record { word = x; size = n }

abbrev pub stray : Piece
stray = piece wrong 1

-- an IRI after its `<`: at least one byte, and then `>`
abbrev pub iri_piece : List ℕ → Piece
iri_piece bs = let x = take_while iri_byte bs in cond (not (is_nil x) && leads 62 (drop (length x) bs)) (piece (iri x) (length x + 2)) stray

-- a literal after its first quote
abbrev pub literal_piece : List ℕ → Piece
literal_piece bs = let x = take_while literal_byte bs in cond (leads 34 (drop (length x) bs)) (piece (literal x) (length x + 2)) stray

-- a variable after its `?`
abbrev pub name_piece : List ℕ → Piece
name_piece bs = let x = take_while word_byte bs in cond (is_nil x) stray (piece (name x) (length x + 1))

-- the keywords are whole words, in capitals
abbrev pub keyword : List ℕ → Word
keyword x = cond (same_bytes x (codes "OPTIONAL")) optional (cond (same_bytes x (codes "UNION")) union wrong)

abbrev pub word_piece : List ℕ → Piece
word_piece bs = let x = take_while word_byte bs in piece (keyword x) (length x)

-- the token of one byte
abbrev pub signs : ℕ → Word
signs b =
    cond (b == 123) open_brace (cond (b == 125) close_brace (cond (b == 40) open_paren (cond (b == 41) close_paren (cond (b == 46) dot
    (cond (b == 124) bar (cond (b == 47) slash (cond (b == 94) caret (cond (b == 42) star (cond (b == 33) bang wrong)))))))))

-- the token that begins with the byte b, which is no blank, before bs
abbrev pub lexeme : ℕ → List ℕ → Piece
lexeme b bs =
    cond (b == 60) (iri_piece bs)
    (cond (b == 34) (literal_piece bs)
    (cond (b == 63) (name_piece bs)
    (cond (word_byte b) (word_piece (b ∷ bs))
    (piece (signs b) 1))))

-- a word with the offset of its token
pub record Spot : Type 0 where
  pub at : ℕ
  pub word : Word

-- the last of all: nothing that follows it matters
abbrev pub final : Word → Bool
final (iri x) = false
final (literal x) = false
final (name x) = false
final open_brace = false
final close_brace = false
final open_paren = false
final close_paren = false
final dot = false
final bar = false
final slash = false
final caret = false
final star = false
final bang = false
final optional = false
final union = false
final wrong = true
final end = true

abbrev pub put : ℕ → Word → List Spot → List Spot
put i x v = record { at = i; word = x } ∷ cond (final x) [] v

-- the tokens of the bytes from the offset i on, of which the first n belong to the token before
unfoldable pub cut : ℕ → ℕ → List ℕ → List Spot
cut i n [] = put i end []
cut i (suc n) (b ∷ bs) = cut (i + 1) n bs
cut i zero (b ∷ bs) = cond (blank_byte b) (cut (i + 1) zero bs) (put i (lexeme b bs).word (cut (i + 1) ((lexeme b bs).size - 1) bs))

-- the tokens of a text from an offset on
abbrev pub tokens_from : List ℕ → ℕ → List Spot
tokens_from text at = cut at zero (drop at text)

abbrev pub tokens : List ℕ → List Spot
tokens text = cut 0 zero text

-- ---- the code's tokens

-- the bytes of a text from one offset to before another
abbrev pub part : List ℕ → ℕ → ℕ → List ℕ
part text from to = take (to - from) (drop from text)

-- where what a token says ends, before its last mark if it has one
abbrev pub inner : Lexeme → ℕ
inner l = l.end - said_tail l.token
  where
    said_tail : Token → ℕ
    said_tail Iri = 1
    said_tail Literal = 1
    said_tail Variable = 0
    said_tail OpenBrace = 0
    said_tail CloseBrace = 0
    said_tail OpenParen = 0
    said_tail CloseParen = 0
    said_tail Dot = 0
    said_tail Bar = 0
    said_tail Slash = 0
    said_tail Caret = 0
    said_tail Star = 0
    said_tail Bang = 0
    said_tail Optional = 0
    said_tail Union = 0
    said_tail Wrong = 0
    said_tail End = 0

-- what the code's token says
abbrev pub said : List ℕ → Lexeme → Word
said text l = saying l.token (part text (l.start + 1) (inner l))

-- the token l and all tokens after it
abbrev pub ahead : List ℕ → Lexeme → List Spot
ahead text l = put l.start (said text l) (tokens_from text l.end)

-- l is the first token of a text from an offset on
pub record First (text : List ℕ) (at : ℕ) (l : Lexeme) : Type 0 where
  pub stream : tokens_from text at ≡ ahead text l
  pub forward : at ≤ l.start
  pub within : at ≤ length text → l.end ≤ length text
  pub long : final (said text l) ≡ false → l.start < l.end
  pub last : l.start ≤ l.end
