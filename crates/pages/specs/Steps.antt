-- What the parts of one way through the file answer.
use Rattle.std.specs.Prelude.{◌≡◌, ℕ, ◌+◌, ◌≤◌, List, ◌∷◌, ◌++◌, length, Some, None, Option}
use Rattle.std.specs.Option.{option_map}
use Rattle.lines.specs.Lines.{lines}
use Rattle.lines.specs.Readings.{opens}
use Rattle.lines.specs.Steps.{triple_of}
use Rattle.lines.specs.declared.saying.Stated.{Stated}
use Rattle.web.specs.Meaning.{Triple, Looked, found, listed}
use Rattle.pages.specs.declared.cause.PageCause.{PageCause}
use Rattle.pages.specs.Pages.{Numbered, numbered, lines_on, stated, first_fault}

-- the next opening of the page a was found. n lines were passed before the bytes, and m are passed now
pub record Opened (a : List ℕ) (n : ℕ) (bytes : List ℕ) (m : ℕ) (rest : List ℕ) : Type 0 where
  pub goes : lines_on a n None (lines bytes) ≡ numbered m (opens a) ∷ lines_on a m (Some a) (lines rest)
  pub bound : m + length rest ≤ n + length bytes

-- from the bytes, where the page a is open, its lines were passed as far as rest, where p is open. None of them is at fault, and they state so many
-- triples; the one at a place was kept, if there is one
pub record Passed (a : List ℕ) (n : ℕ) (bytes : List ℕ) (place count : ℕ) (kept : Option Stated) (p : Option (List ℕ)) (m : ℕ) (rest : List ℕ) : Type 0 where
  pub page : List Numbered
  pub goes : lines_on a n (Some a) (lines bytes) ≡ page ++ lines_on a m p (lines rest)
  pub good : first_fault page ≡ None
  pub counted : count ≡ length (stated page)
  pub keeps : option_map triple_of kept ≡ listed place (stated page)
  pub few : n + count ≤ m
  pub bound : m + length rest ≤ n + length bytes

-- found, with a list of so many triples; the one at a place was kept, if there is one
pub record Holds (l : Looked PageCause) (place count : ℕ) (kept : Option Stated) : Type 0 where
  pub list : List Triple
  pub found_so : l ≡ found list
  pub counted : count ≡ length list
  pub keeps : option_map triple_of kept ≡ listed place list
