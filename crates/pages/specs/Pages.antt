-- What a page file means at each IRI. A line belongs to the page that the last opening up to it opened, so an opening belongs to its own page. Lines are numbered from 1.
-- What bytes are lines and what a line says is to be checked in `Spelled.antt` of the crate `lines`.
use Rattle.std.specs.Prelude.{ℕ, ◌+◌, Bool, false, cond, List, [], ◌∷◌, length, take_while, Some, None, Option, nat_le}
use Rattle.std.specs.Str.{bytes_eq}
use Rattle.terms.specs.Lawful.{is_iri}
use Rattle.web.specs.Meaning.{Triple, Looked, found, absent, broken, Mark}
use Rattle.pages.specs.declared.cause.Fault.{Fault}
use Rattle.pages.specs.declared.cause.Fault.TheVariants.{Unreadable, OpenedAgain}
use Rattle.pages.specs.declared.cause.PageCause.{PageCause}
use Rattle.lines.specs.Lines.{lines}
use Rattle.lines.specs.Runs.{differs}
use Rattle.lines.specs.Readings.{Said, nothing, opens, states, unreadable, says}

-- ---- causes

abbrev pub fault_code : Fault → ℕ
fault_code Unreadable = 1
fault_code OpenedAgain = 2

-- the place is the line's number
abbrev pub cause_mark : PageCause → Mark
cause_mark c = record { code = fault_code c.fault; place = c.line }

abbrev pub cause : Fault → ℕ → PageCause
cause f n = record { fault = f; line = n }

-- ---- lines on a page

-- the page that is open behind a line which says this, if p was open before it
abbrev pub page_after : Option (List ℕ) → Said → Option (List ℕ)
page_after p nothing = p
page_after p (opens a) = Some a
page_after p (states t) = p
page_after p unreadable = p

abbrev pub is_page : List ℕ → Option (List ℕ) → Bool
is_page a None = false
is_page a (Some b) = bytes_eq b a

-- a line by its number and what it says
pub record Numbered : Type 0 where
  pub number : ℕ
  pub what : Said

abbrev pub numbered : ℕ → Said → Numbered
numbered n s = record { number = n; what = s }

-- of these lines those on the page a, its openings among them; n lines stand before them, and p is the page that is open there
unfoldable pub lines_on : List ℕ → ℕ → Option (List ℕ) → List (List ℕ) → List Numbered
lines_on a n p [] = []
lines_on a n p (l ∷ ls) =
    cond (is_page a (page_after p (says l))) (numbered (n + 1) (says l) ∷ lines_on a (n + 1) (page_after p (says l)) ls) (lines_on a (n + 1) (page_after p (says l)) ls)

-- ---- what a page holds

abbrev pub with_stated : Said → List Triple → List Triple
with_stated nothing ts = ts
with_stated (opens a) ts = ts
with_stated (states t) ts = t ∷ ts
with_stated unreadable ts = ts

-- the triples that lines state, in their order
abbrev pub stated : List Numbered → List Triple
stated [] = []
stated (l ∷ ls) = with_stated l.what (stated ls)

-- what is wrong with a line behind the page's first opening
abbrev pub fault_of : ℕ → Said → Option PageCause
fault_of n nothing = None
fault_of n (opens a) = Some (cause OpenedAgain n)
fault_of n (states t) = None
fault_of n unreadable = Some (cause Unreadable n)

abbrev pub or_else : Option PageCause → Option PageCause → Option PageCause
or_else None o = o
or_else (Some c) o = Some c

abbrev pub first_fault : List Numbered → Option PageCause
first_fault [] = None
first_fault (l ∷ ls) = or_else (fault_of l.number l.what) (first_fault ls)

abbrev pub judged_by : Option PageCause → List Triple → Looked PageCause
judged_by None ts = found ts
judged_by (Some c) ts = broken c

-- the first line on a page is its opening; without one there is no such page
abbrev pub page_of : List Numbered → Looked PageCause
page_of [] = absent
page_of (l ∷ ls) = judged_by (first_fault ls) (stated ls)

-- ---- the file

-- an IRI leads to the page that is named by what stands before its first `#`
abbrev pub address : List ℕ → List ℕ
address iri = take_while (differs 35) iri

abbrev pub page_at : List ℕ → List ℕ → Looked PageCause
page_at file a = page_of (lines_on a 0 None (lines file))

abbrev pub page_meaning : List ℕ → List ℕ → Looked PageCause
page_meaning file iri = cond (is_iri iri) (page_at file (address iri)) absent

-- what the file is as a Web: one over the limit of 65,536 bytes holds nothing. No such Web is ever made
abbrev pub web_meaning : List ℕ → List ℕ → Looked PageCause
web_meaning file iri = cond (nat_le (length file) 65536) (page_meaning file iri) absent
