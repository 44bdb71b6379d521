-- The documents of the examples as page files, byte by byte.
use Rattle.std.specs.Prelude.{◌≡◌, ℕ, List, ◌++◌, codes}
use Rattle.terms.specs.Terms.{Term}
use Rattle.grammar.specs.Grammar.{Name}
use Rattle.grammar.specs.Syntax.{Pattern}
use Rattle.semantics.specs.Webs.{Triple, graph_of, Universe, by_bytes}
use Rattle.pages.specs.Pages.{address, web_meaning}
use Rattle.webs_meant.specs.Finding.{found_of}
use Rattle.samples.specs.Feeders as feeders
use Rattle.samples.specs.File as file
use Rattle.samples.specs.Static as static
use Rattle.samples.specs.Weighed as weighed

abbrev pub four_pages : List ℕ
four_pages =
    codes "@page <m:1>\n<m:1> <p:alt> <m:2> .\n<m:1> <p:alt> <m:3> .\n"
    ++ (codes "@page <m:2>\n<m:2> <p:val> \"10u\" .\n"
    ++ (codes "@page <m:3>\n<m:3> <p:val> \"10u\" .\n<m:2> <p:val> \"22u\" .\n"
    ++ codes "@page <m:4>\n<m:4> <p:val> \"47u\" .\n"))

abbrev pub feeder_pages : List ℕ
feeder_pages =
    codes "@page <b:7>\n<b:7> <p:place> <c:1> .\n<b:7> <p:place> <c:2> .\n"
    ++ (codes "@page <c:1>\n<c:1> <p:alt> <c:3> .\n"
    ++ (codes "@page <c:2>\n<c:2> <p:alt> <c:3> .\n"
    ++ codes "@page <c:3>\n<c:3> <p:fits> <f:1> .\n<c:3> <p:fits> <f:2> .\n"))

-- the first substitute is listed twice
abbrev pub weighed_pages : List ℕ
weighed_pages =
    codes "@page <a:1>\n<a:1> <p:alt> <x:1> .\n<a:1> <p:alt> <x:1> .\n<a:1> <p:alt> <x:2> .\n<a:1> <p:like> <x:2> .\n"
    ++ codes "@page <x:1>\n<x:1> <p:val> \"10u\" .\n"

abbrev pub plan_pages : List ℕ
plan_pages =
    codes "@page <a:1>\n<a:1> <p:alt> <x:1> .\n@page <x:1>\n<x:1> <p:val> <y:1> .\n"
    ++ codes "@page <b:1>\n<b:1> <p:names> <y:2> .\n@page <y:1>\n<y:1> <p:leads> <z:1> .\n"

-- As a Web the file is these lists: what is worked out over them holds over the file. V is the type of a question's variables.
pub record Means (V : Type 0) (bytes : List ℕ) (found : Term → List (Triple Term)) : Type 0 where
  -- every term that has no `#` finds its list
  pub lists : (t : Term) → address t.bytes ≡ t.bytes → found_of (web_meaning bytes) t ≡ found t
  -- An IRI with `#` finds the list of the page before it. No triple there has the IRI for its subject, so contexts are the same everywhere.
  pub graph : (U : List Term) → graph_of by_bytes (found_of (web_meaning bytes)) U ≡ graph_of by_bytes found U
  pub universe : (p : Pattern Term V) (U : List Term) → Universe by_bytes found p U → Universe by_bytes (found_of (web_meaning bytes)) p U

abbrev pub FileIsWritten : Type 0
FileIsWritten = Means ℕ four_pages file.found

abbrev pub FeedersAreWritten : Type 0
FeedersAreWritten = Means Name feeder_pages feeders.found

abbrev pub WeighedIsWritten : Type 0
WeighedIsWritten = Means ℕ weighed_pages weighed.found

abbrev pub PlansAreWritten : Type 0
PlansAreWritten = Means ℕ plan_pages static.found
