-- What the lexer's parts answer.
use Rattle.std.specs.Prelude.{◌≡◌, ℕ, ◌+◌, ◌<◌, ◌≤◌, List, length}
use Rattle.tokens.specs.declared.token.Lexeme.{Lexeme}
use Rattle.tokens.specs.Lexed.{Piece, said}

-- the code's token l begins at an offset of the text and is this piece
pub record Reads (text : List ℕ) (at : ℕ) (p : Piece) (l : Lexeme) : Type 0 where
  pub begins : l.start ≡ at
  pub says : said text l ≡ p.word
  pub ends : l.end ≡ at + p.size
  pub some : at < l.end
  pub within : l.end ≤ length text
