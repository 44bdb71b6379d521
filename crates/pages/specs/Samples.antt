-- A small file, and what it means at addresses of every sort.
use Rattle.std.specs.Prelude.{◌≡◌, ℕ, List, [], ◌∷◌, ◌++◌, codes}
use Rattle.terms.specs.declared.kind.Kind.TheVariants.{Iri, Literal}
use Rattle.lines.specs.Readings.{triple}
use Rattle.web.specs.Meaning.{Triple, found, absent, broken}
use Rattle.pages.specs.declared.cause.Fault.TheVariants.{Unreadable, OpenedAgain}
use Rattle.pages.specs.Pages.{cause, page_meaning}

-- lines 1 to 6
abbrev pub front : List ℕ
front = codes "before the first page\n@page <m:1>\n<m:1> <p:alt> <m:2> .\n\n<m:1> <p:val> \"10u\" .\n@page <m:2>\n"

abbrev pub oops : List ℕ
oops = codes "<m:2> oops\n"

-- the last line has no LF
abbrev pub back : List ℕ
back = codes "@page <m:3>\n@page <m:2>"

abbrev pub sample : List ℕ
sample = front ++ (oops ++ back)

abbrev pub listed : List Triple
listed = triple (codes "m:1") (codes "p:alt") Iri (codes "m:2") ∷ triple (codes "m:1") (codes "p:val") Literal (codes "10u") ∷ []

pub record Sampled : Type 0 where
  pub whole : page_meaning sample (codes "m:1") ≡ found listed
  pub cut_bare : page_meaning sample (codes "m:1#") ≡ found listed
  pub cut : page_meaning sample (codes "m:1#x") ≡ found listed
  pub cut_first : page_meaning sample (codes "m:1#x#y") ≡ found listed
  pub unread : page_meaning sample (codes "m:2") ≡ broken (cause Unreadable 7)
  pub again : page_meaning (front ++ back) (codes "m:2") ≡ broken (cause OpenedAgain 8)
  pub none : page_meaning sample (codes "m:3") ≡ found []
  pub unknown : page_meaning sample (codes "m:4") ≡ absent
  pub no_iri : page_meaning sample (codes "m:1 ") ≡ absent
