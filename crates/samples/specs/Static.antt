-- The plan goes by what judging has fixed, not by the terms that happen to be there.
-- Part a:1 has the substitute x:1, which has a value y:1; another list, b:1, names the value y:2. The question asks for a substitute, its value if it has
-- one, and what the value that b:1 names leads to.
use Rattle.std.specs.Prelude.{◌≡◌, ℕ, ◌+◌, ◌*◌, true, cond, List, [], ◌∷◌, ◌++◌, Some, None, codes}
use Rattle.terms.specs.Terms.{Term}
use Rattle.grammar.specs.Syntax.{link, inverse, sequence, constant, variable, Pattern, empty, line, and, union, opt}
use Rattle.grammar.specs.Grammar.{iri_term}
use Rattle.grammar.specs.Judged.{judged}
use Rattle.semantics.specs.Rows.{Row, blank, merge}
use Rattle.semantics.specs.Graphs.{Graph}
use Rattle.semantics.specs.Terms.{In, gather}
use Rattle.semantics.specs.Meaning.{possible}
use Rattle.semantics.specs.Webs.{Triple, graph_of, Universe, by_bytes, Found}
use Rattle.walks.specs.Plans.{left_first, part, Needed}
use Rattle.walks.specs.Needs.{suited, needs}
use Rattle.walks.specs.Promises.{whole}
use Rattle.samples.specs.File.{triple, Asked}

abbrev pub a1 : Term
a1 = iri_term (codes "a:1")

abbrev pub x1 : Term
x1 = iri_term (codes "x:1")

abbrev pub b1 : Term
b1 = iri_term (codes "b:1")

abbrev pub y1 : Term
y1 = iri_term (codes "y:1")

abbrev pub y2 : Term
y2 = iri_term (codes "y:2")

abbrev pub z1 : Term
z1 = iri_term (codes "z:1")

abbrev pub alt : Term
alt = iri_term (codes "p:alt")

abbrev pub val : Term
val = iri_term (codes "p:val")

abbrev pub names : Term
names = iri_term (codes "p:names")

abbrev pub leads_to : Term
leads_to = iri_term (codes "p:leads")

abbrev pub found : Term → List (Triple Term)
found t =
    cond (by_bytes.same t a1) (triple a1 alt x1 ∷ [])
    (cond (by_bytes.same t x1) (triple x1 val y1 ∷ [])
    (cond (by_bytes.same t b1) (triple b1 names y2 ∷ [])
    (cond (by_bytes.same t y1) (triple y1 leads_to z1 ∷ []) [])))

abbrev pub universe : List Term
universe = a1 ∷ x1 ∷ b1 ∷ y1 ∷ y2 ∷ z1 ∷ alt ∷ val ∷ names ∷ leads_to ∷ []

abbrev pub graph : Graph Term
graph = graph_of by_bytes found universe

-- { { <a:1> <p:alt> ?x . OPTIONAL { ?x <p:val> ?y . } } { ?y <p:leads> ?z . <b:1> <p:names> ?y . } }
abbrev pub question : Asked
question =
    and (opt (line (constant a1) (link alt) (variable 0)) (line (variable 0) (link val) (variable 1)))
    (and (line (variable 1) (link leads_to) (variable 2)) (line (constant b1) (link names) (variable 1)))

abbrev pub ItCanBeWalked : Type 0
ItCanBeWalked = judged question 0 ≡ true

-- ?y is not sure, so the group's second line goes first, also where the OPTIONAL part has given ?y the term y:1. That term does not fit what b:1 names.
abbrev pub JudgingOrdersThePlan : Type 0
JudgingOrdersThePlan = needs by_bytes graph (whole question) ≡ a1 ∷ x1 ∷ b1 ∷ b1 ∷ y2 ∷ []

-- so the document of y:1 is not needed
abbrev pub NotWhatIsAtHand : Type 0
NotWhatIsAtHand = Needed by_bytes graph (whole question) y1 → ⊥

-- ---- the plan that this is not: by the terms that happen to be fixed

-- the variables that a row gives a term
abbrev pub at_hand : Row Term → ℕ
at_hand [] = 0
at_hand (None ∷ r) = 2 * at_hand r
at_hand (Some a ∷ r) = 1 + 2 * at_hand r

abbrev pub needs_by_hand : Pattern Term ℕ → Row Term → List Term
needs_by_hand empty r = []
needs_by_hand (line e p f) r = needs by_bytes graph (part (at_hand r) (line e p f) r)
needs_by_hand (and p q) r =
    cond (left_first (at_hand r) p q)
    (needs_by_hand p r ++ gather (λ a. needs_by_hand q (merge r a)) (suited by_bytes graph r (possible by_bytes graph p)))
    (needs_by_hand q r ++ gather (λ a. needs_by_hand p (merge r a)) (suited by_bytes graph r (possible by_bytes graph q)))
needs_by_hand (union p q) r = needs_by_hand p r ++ needs_by_hand q r
needs_by_hand (opt p q) r = needs_by_hand p r ++ gather (λ a. needs_by_hand q a) (suited by_bytes graph r (possible by_bytes graph p))

-- With y:1 at hand it would begin with the group's first line, and read y:1.
abbrev pub TermsAtHandWouldNeedMore : Type 0
TermsAtHandWouldNeedMore = needs_by_hand question blank ≡ a1 ∷ x1 ∷ y1 ∷ b1 ∷ b1 ∷ y2 ∷ []

-- ---- left side first

-- { <y:1> <p:alt> ?x . <a:1> <p:alt> ?y . }: either side could go first
abbrev pub two_parts : Asked
two_parts = and (line (constant y1) (link alt) (variable 0)) (line (constant a1) (link alt) (variable 1))

-- The left side has no solution, so the right side is never reached.
abbrev pub LeftSideGoesFirst : Type 0
LeftSideGoesFirst = needs by_bytes graph (whole two_parts) ≡ y1 ∷ []

-- <a:1> <p:alt>/^<p:alt> <b:1>: both ends are known, and the walk begins on the left. It hands the middle term x:1 on, and reads b:1 to see whether it
-- leads there.
abbrev pub from_both_ends : Asked
from_both_ends = line (constant a1) (sequence (link alt) (inverse (link alt))) (constant b1)

abbrev pub SequenceBeginsOnTheLeft : Type 0
SequenceBeginsOnTheLeft = needs by_bytes graph (whole from_both_ends) ≡ a1 ∷ b1 ∷ []

-- <y:1> <p:alt>/^<p:alt> <b:1>: there is no middle term, so b:1 is not read
abbrev pub from_nowhere : Asked
from_nowhere = line (constant y1) (sequence (link alt) (inverse (link alt))) (constant b1)

abbrev pub NoMiddleNoSecondStep : Type 0
NoMiddleNoSecondStep = needs by_bytes graph (whole from_nowhere) ≡ y1 ∷ []

-- ---- the documents

-- they are a Web, and the terms listed are its universe for each of these questions
abbrev pub asked : List Asked
asked = question ∷ two_parts ∷ from_both_ends ∷ from_nowhere ∷ []

abbrev pub PlansAreAWeb : Type 0
PlansAreAWeb = Found found × ((q : Asked) → In q asked → Universe by_bytes found q universe)
