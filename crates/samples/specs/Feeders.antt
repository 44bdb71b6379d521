-- The capacitor that filled two feeders. Board b:7 places c:1 and c:2, each of which has c:3 for a substitute, and c:3 fits feeders f:1 and f:2.
-- Two planners ask which substitutes fit which feeders, with the halves of the question in opposite order.
use Rattle.std.specs.Prelude.{◌≡◌, ℕ, true, cond, List, [], ◌∷◌, Some, codes as spelled, Option}
use Rattle.weights.specs.Kinds.{Kind, Lawful}
use Rattle.weights.specs.Codes.{counting, presence}
use Rattle.terms.specs.Terms.{Term}
use Rattle.grammar.specs.Syntax.{link, inverse, sequence, constant, variable, Pattern, line, and}
use Rattle.grammar.specs.Grammar.{Name, iri_term}
use Rattle.grammar.specs.Judged.{judged}
use Rattle.semantics.specs.Bags.{Bag}
use Rattle.semantics.specs.Graphs.{Graph}
use Rattle.semantics.specs.Meaning.{weight_in, solutions}
use Rattle.semantics.specs.Alike.{Alike}
use Rattle.grammar.specs.Numbered.{numbered}
use Rattle.semantics.specs.Named.{Names, row_by}
use Rattle.semantics.specs.Webs.{Triple, graph_of, Universe, by_bytes, Found}
use Rattle.walks.specs.Needs.{needs}
use Rattle.walks.specs.Promises.{whole}
use Rattle.samples.specs.File.{triple}

abbrev pub b7 : Term
b7 = iri_term (spelled "b:7")

abbrev pub c1 : Term
c1 = iri_term (spelled "c:1")

abbrev pub c2 : Term
c2 = iri_term (spelled "c:2")

abbrev pub c3 : Term
c3 = iri_term (spelled "c:3")

abbrev pub f1 : Term
f1 = iri_term (spelled "f:1")

abbrev pub f2 : Term
f2 = iri_term (spelled "f:2")

abbrev pub place : Term
place = iri_term (spelled "p:place")

abbrev pub alt : Term
alt = iri_term (spelled "p:alt")

abbrev pub fits : Term
fits = iri_term (spelled "p:fits")

abbrev pub found : Term → List (Triple Term)
found t =
    cond (by_bytes.same t b7) (triple b7 place c1 ∷ triple b7 place c2 ∷ [])
    (cond (by_bytes.same t c1) (triple c1 alt c3 ∷ [])
    (cond (by_bytes.same t c2) (triple c2 alt c3 ∷ [])
    (cond (by_bytes.same t c3) (triple c3 fits f1 ∷ triple c3 fits f2 ∷ []) [])))

abbrev pub universe : List Term
universe = b7 ∷ c1 ∷ c2 ∷ c3 ∷ f1 ∷ f2 ∷ place ∷ alt ∷ fits ∷ []

abbrev pub graph : Graph Term
graph = graph_of by_bytes found universe

-- ---- the two questions, by name

abbrev pub capacitor : Name
capacitor = spelled "c"

abbrev pub feeder : Name
feeder = spelled "f"

-- <b:7> <p:place>/<p:alt> ?c .
abbrev pub substitutes : Pattern Term Name
substitutes = line (constant b7) (sequence (link place) (link alt)) (variable capacitor)

-- ?f ^<p:fits> ?c .
abbrev pub fitting : Pattern Term Name
fitting = line (variable feeder) (inverse (link fits)) (variable capacitor)

abbrev pub first : Pattern Term Name
first = and substitutes fitting

abbrev pub second : Pattern Term Name
second = and fitting substitutes

-- variables are numbered by their first place in the text
abbrev pub first_names : List Name
first_names = capacitor ∷ feeder ∷ []

abbrev pub second_names : List Name
second_names = feeder ∷ capacitor ∷ []

abbrev pub TwoOrdersOfOneQuestion : Type 0
TwoOrdersOfOneQuestion = Alike first second × Names first first_names × Names second second_names

-- the documents are a Web, and the terms listed are its universe for either question
abbrev pub FeedersAreAWeb : Type 0
FeedersAreAWeb = Found found × Universe by_bytes found first universe × Universe by_bytes found second universe

abbrev pub solved : Kind → List Name → Pattern Term Name → Bag Term ℕ
solved k names p = solutions by_bytes graph k (numbered names p)

-- c:3 comes about in two ways, by c:1 and by c:2, and fills two feeders: two solutions, of count two each
abbrev pub FirstList : Type 0
FirstList = solved counting first_names first ≡ (Some c3 ∷ Some f1 ∷ [], 2) ∷ (Some c3 ∷ Some f2 ∷ [], 2) ∷ []

abbrev pub SecondList : Type 0
SecondList = solved counting second_names second ≡ (Some f1 ∷ Some c3 ∷ [], 2) ∷ (Some f2 ∷ Some c3 ∷ [], 2) ∷ []

abbrev pub ListsOfPresence : Type 0
ListsOfPresence =
    (solved presence first_names first ≡ (Some c3 ∷ Some f1 ∷ [], 1) ∷ (Some c3 ∷ Some f2 ∷ [], 1) ∷ [])
    × (solved presence second_names second ≡ (Some f1 ∷ Some c3 ∷ [], 1) ∷ (Some f2 ∷ Some c3 ∷ [], 1) ∷ [])

-- so both lists are one, by name and term, and not for these two kinds alone
abbrev pub OneListByName : Type 0
OneListByName =
    (k : Kind) → Lawful k → (solution : Name → Option Term)
    → weight_in by_bytes graph k (numbered first_names first) (row_by first_names solution)
    ≡ weight_in by_bytes graph k (numbered second_names second) (row_by second_names solution)

abbrev pub BothCanBeWalked : Type 0
BothCanBeWalked = (judged (numbered first_names first) 0 ≡ true) × (judged (numbered second_names second) 0 ≡ true)

-- the documents that a walk over these needs, in the order in which the plan comes to them
abbrev pub OneSetOfDocuments : Type 0
OneSetOfDocuments =
    (needs by_bytes graph (whole (numbered first_names first)) ≡ b7 ∷ c1 ∷ c2 ∷ c3 ∷ [])
    × (needs by_bytes graph (whole (numbered second_names second)) ≡ b7 ∷ c1 ∷ c2 ∷ c3 ∷ [])
