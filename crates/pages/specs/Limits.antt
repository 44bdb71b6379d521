-- Making a Web of a file: refused by 16 where it is over the limit.
use Rattle.std.specs.Prelude.{◌≡◌, ℕ, ◌≤◌, List, length}
use Rattle.pages.specs.Pages.{page_meaning, web_meaning}

abbrev pub too_long_number : ℕ
too_long_number = 16

-- a Web was made of a file: it holds the file, which is within the limit, and means what the pages mean
pub record Made (file held : List ℕ) : Type 0 where
  pub same : held ≡ file
  pub short : length file ≤ 65536
  pub means : (iri : List ℕ) → web_meaning held iri ≡ page_meaning file iri
