-- What a token says. Its sort is the code's `Token`; IRIs, literals and variables have bytes besides, without their marks.
use Rattle.std.specs.Prelude.{ℕ, Bool, List, [], ◌==◌}
use Rattle.tokens.specs.declared.token.Token.{Token}
use Rattle.tokens.specs.declared.token.Token.TheVariants.{Iri, Literal, Variable, OpenBrace, CloseBrace, OpenParen, CloseParen, Dot, Bar, Slash, Caret, Star, Bang, Optional, Union, Wrong, End}

pub data Word : Type 0 where
  iri literal name : List ℕ → Word
  open_brace close_brace open_paren close_paren dot bar slash caret star bang optional union wrong end : Word

abbrev pub sort : Word → Token
sort (iri x) = Iri
sort (literal x) = Literal
sort (name x) = Variable
sort open_brace = OpenBrace
sort close_brace = CloseBrace
sort open_paren = OpenParen
sort close_paren = CloseParen
sort dot = Dot
sort bar = Bar
sort slash = Slash
sort caret = Caret
sort star = Star
sort bang = Bang
sort optional = Optional
sort union = Union
sort wrong = Wrong
sort end = End

-- the bytes that a word holds, where it holds any
abbrev pub content : Word → List ℕ
content (iri x) = x
content (literal x) = x
content (name x) = x
content open_brace = []
content close_brace = []
content open_paren = []
content close_paren = []
content dot = []
content bar = []
content slash = []
content caret = []
content star = []
content bang = []
content optional = []
content union = []
content wrong = []
content end = []

-- the word of a sort, with these bytes if that sort holds any
abbrev pub saying : Token → List ℕ → Word
saying Iri x = iri x
saying Literal x = literal x
saying Variable x = name x
saying OpenBrace x = open_brace
saying CloseBrace x = close_brace
saying OpenParen x = open_paren
saying CloseParen x = close_paren
saying Dot x = dot
saying Bar x = bar
saying Slash x = slash
saying Caret x = caret
saying Star x = star
saying Bang x = bang
saying Optional x = optional
saying Union x = union
saying Wrong x = wrong
saying End x = end

-- a number for each sort, so that sorts can be compared without a case for each two of them
abbrev pub code : Token → ℕ
code Iri = 0
code Literal = 1
code Variable = 2
code OpenBrace = 3
code CloseBrace = 4
code OpenParen = 5
code CloseParen = 6
code Dot = 7
code Bar = 8
code Slash = 9
code Caret = 10
code Star = 11
code Bang = 12
code Optional = 13
code Union = 14
code Wrong = 15
code End = 16

abbrev pub same : Token → Token → Bool
same s t = code s == code t
