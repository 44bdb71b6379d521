-- Laws of page files, in the words of lines, openings and pages.
use Rattle.std.specs.Prelude.{◌≡◌, ℕ, ◌≤◌, true, false, ◌⊎◌, List, [], ◌∷◌, ◌++◌, map, length, Some, None, codes, Option, ◌==◌, ◌≢◌}
use Rattle.terms.specs.Lawful.{is_iri}
use Rattle.lines.specs.Lines.{lines}
use Rattle.lines.specs.Readings.{Said, opening, says, nothing, opens, states}
use Rattle.web.specs.Meaning.{Triple, Looked, found, absent, broken, triples}
use Rattle.pages.specs.declared.cause.Fault.{Fault}
use Rattle.pages.specs.declared.cause.PageCause.{PageCause}
use Rattle.pages.specs.Pages.{Numbered, lines_on, address, page_after, page_at, page_meaning}

-- ---- an address is cut before the first #

abbrev pub NoHash : List ℕ → Type 0
NoHash [] = Unit {0}
NoHash (b ∷ bs) = ((b == 35) ≡ false) × NoHash bs

abbrev pub CutBeforeHash : Type 0
CutBeforeHash = (before after : List ℕ) → NoHash before → (address before ≡ before) × (address (before ++ (35 ∷ after)) ≡ before)

-- ---- the first line on a page is its opening

abbrev pub FirstOpens : List ℕ → List Numbered → Type 0
FirstOpens a [] = Unit {0}
FirstOpens a (l ∷ ls) = l.what ≡ opens a

abbrev pub BeginsWithItsOpening : Type 0
BeginsWithItsOpening = (file a : List ℕ) → FirstOpens a (lines_on a 0 None (lines file))

-- ---- only a page's own lines and the openings matter to it

-- Line by line, from where p is open: they open the same page, or none, and on the page a they are the same line. So there are equally many.
abbrev pub SameFor : List ℕ → Option (List ℕ) → List (List ℕ) → List (List ℕ) → Type 0
SameFor a p [] [] = Unit {0}
SameFor a p [] (m ∷ ms) = ⊥
SameFor a p (l ∷ ls) [] = ⊥
SameFor a p (l ∷ ls) (m ∷ ms) = (opening l ≡ opening m) × (page_after p (says l) ≡ Some a → l ≡ m) × SameFor a (page_after p (says l)) ls ms

abbrev pub OnlyItsLines : Type 0
OnlyItsLines = (file other iri : List ℕ) → SameFor (address iri) None (lines file) (lines other) → page_meaning file iri ≡ page_meaning other iri

-- ---- lines added to other pages, or dropped from them, move the number of a fault and nothing else

-- what the lines on a page say, in their order
abbrev pub sayings : List ℕ → List ℕ → List Said
sayings a file = map (λ l. l.what) (lines_on a 0 None (lines file))

-- what is held, without the number of a line at fault
abbrev pub unnumbered : Looked PageCause → Looked Fault
unnumbered (found ts) = found ts
unnumbered absent = absent
unnumbered (broken c) = broken c.fault

abbrev pub SayingsDecide : Type 0
SayingsDecide = (file other iri : List ℕ) → sayings (address iri) file ≡ sayings (address iri) other → unnumbered (page_meaning file iri) ≡ unnumbered (page_meaning other iri)

-- ---- an LF at the file's end changes nothing: it ends the last line, or adds an empty one

abbrev pub LastFeed : Type 0
LastFeed = (file iri : List ℕ) → page_meaning (file ++ codes "\n") iri ≡ page_meaning file iri

-- ---- a further page changes no other address

-- no line opens another page than a
abbrev pub OpensOnly : List ℕ → List (List ℕ) → Type 0
OpensOnly a [] = Unit {0}
OpensOnly a (l ∷ ls) = ((b : List ℕ) → says l ≡ opens b → b ≡ a) × OpensOnly a ls

-- the lines of one page
abbrev pub OnePage : List ℕ → List (List ℕ) → Type 0
OnePage a [] = ⊥
OnePage a (l ∷ ls) = (says l ≡ opens a) × OpensOnly a ls

-- a line may begin behind these bytes: they are none, or they end with LF
abbrev pub EndsLine : List ℕ → Type 0
EndsLine file = (file ≡ []) ⊎ ((bytes : List ℕ) × (file ≡ bytes ++ codes "\n"))

abbrev pub FurtherPage : Type 0
FurtherPage = (file page iri a : List ℕ) → EndsLine file → OnePage a (lines page) → (address iri ≢ a) → page_meaning (file ++ page) iri ≡ page_meaning file iri

-- ---- a page without fault is found with its triples

-- no line opens a
abbrev pub NeverOpens : List ℕ → List (List ℕ) → Type 0
NeverOpens a [] = Unit {0}
NeverOpens a (l ∷ ls) = (says l ≢ opens a) × NeverOpens a ls

-- the lines state these triples, one behind another; empty lines may stand between
abbrev pub State : List Triple → List (List ℕ) → Type 0
State ts [] = ts ≡ []
State ts (l ∷ ls) = ((says l ≡ nothing) × State ts ls) ⊎ ((t : Triple) × (us : List Triple) × (ts ≡ t ∷ us) × (says l ≡ states t) × State us ls)

-- these lines are none, or they begin with an opening
abbrev pub BeginPage : List (List ℕ) → Type 0
BeginPage [] = Unit {0}
BeginPage (l ∷ ls) = (b : List ℕ) × (says l ≡ opens b)

abbrev pub FoundWithItsTriples : Type 0
FoundWithItsTriples =
    (file iri first : List ℕ) (before page after : List (List ℕ)) (ts : List Triple) → is_iri iri ≡ true → lines file ≡ before ++ (first ∷ (page ++ after))
    → NeverOpens (address iri) before → says first ≡ opens (address iri) → State ts page → BeginPage after → NeverOpens (address iri) after
    → page_meaning file iri ≡ found ts

-- ---- a file within the limit has no list over the limit

abbrev pub FewTriples : Type 0
FewTriples = (file a : List ℕ) → length file ≤ 65536 → length (triples (page_at file a)) ≤ 65535
