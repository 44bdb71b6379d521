-- A small graph where weights could go wrong. Part a:1 has the substitutes x:1, which is listed twice, and x:2, which two predicates lead to. x:1 has a value;
-- of x:2 there is no document.
use Rattle.std.specs.Prelude.{◌≡◌, ℕ, true, cond, List, [], ◌∷◌, codes}
use Rattle.weights.specs.Kinds.{Kind}
use Rattle.weights.specs.Codes.{counting, presence}
use Rattle.terms.specs.Terms.{Term}
use Rattle.grammar.specs.Syntax.{link, negated, alternative, constant, variable, line, opt}
use Rattle.grammar.specs.Grammar.{iri_term, literal_term}
use Rattle.grammar.specs.Judged.{judged}
use Rattle.semantics.specs.Bags.{Bag}
use Rattle.semantics.specs.Graphs.{Graph}
use Rattle.semantics.specs.Meaning.{solutions}
use Rattle.semantics.specs.Terms.{In}
use Rattle.semantics.specs.Webs.{Triple, graph_of, Universe, by_bytes, Found}
use Rattle.samples.specs.File.{triple, Asked}
use Rattle.samples.specs.Shown.{gives, gives_both}

abbrev pub a1 : Term
a1 = iri_term (codes "a:1")

abbrev pub x1 : Term
x1 = iri_term (codes "x:1")

abbrev pub x2 : Term
x2 = iri_term (codes "x:2")

abbrev pub alt : Term
alt = iri_term (codes "p:alt")

abbrev pub like : Term
like = iri_term (codes "p:like")

abbrev pub val : Term
val = iri_term (codes "p:val")

abbrev pub ten : Term
ten = literal_term (codes "10u")

abbrev pub found : Term → List (Triple Term)
found t =
    cond (by_bytes.same t a1) (triple a1 alt x1 ∷ triple a1 alt x1 ∷ triple a1 alt x2 ∷ triple a1 like x2 ∷ [])
    (cond (by_bytes.same t x1) (triple x1 val ten ∷ []) [])

abbrev pub universe : List Term
universe = a1 ∷ x1 ∷ x2 ∷ alt ∷ like ∷ val ∷ ten ∷ []

abbrev pub graph : Graph Term
graph = graph_of by_bytes found universe

-- { <a:1> <p:alt> ?x . }
abbrev pub substitutes : Asked
substitutes = line (constant a1) (link alt) (variable 0)

-- { <a:1> !<p:val> ?x . }
abbrev pub anything_but_a_value : Asked
anything_but_a_value = line (constant a1) (negated (val ∷ [])) (variable 0)

-- { <a:1> <p:alt> ?x . OPTIONAL { ?x <p:val> ?v . } }
abbrev pub with_value : Asked
with_value = opt substitutes (line (variable 0) (link val) (variable 1))

-- { <a:1> <p:alt>|<p:like> ?x . OPTIONAL { ?x <p:val> ?v . } }
abbrev pub two_ways_with_value : Asked
two_ways_with_value = opt (line (constant a1) (alternative (link alt) (link like)) (variable 0)) (line (variable 0) (link val) (variable 1))

abbrev pub asked : List Asked
asked = substitutes ∷ anything_but_a_value ∷ with_value ∷ two_ways_with_value ∷ []

abbrev pub WeighedIsAWeb : Type 0
WeighedIsAWeb = Found found × ((q : Asked) → In q asked → Universe by_bytes found q universe)

abbrev pub WeighedIsBounded : Type 0
WeighedIsBounded = (q : Asked) → In q asked → judged q 0 ≡ true

abbrev pub solved : Kind → Asked → Bag Term ℕ
solved k q = solutions by_bytes graph k q

-- a context is a set
abbrev pub ListedTwiceCountsOnce : Type 0
ListedTwiceCountsOnce = solved counting substitutes ≡ (gives x1, 1) ∷ (gives x2, 1) ∷ []

-- p:alt and p:like both pass, and lead to x:2
abbrev pub NegatedSetWeighsOne : Type 0
NegatedSetWeighsOne = solved counting anything_but_a_value ≡ (gives x1, 1) ∷ (gives x2, 1) ∷ []

-- x:2 has no value
abbrev pub BareRowIsKept : Type 0
BareRowIsKept = solved counting with_value ≡ (gives_both x1 ten, 1) ∷ (gives x2, 1) ∷ []

-- x:2 comes about in two ways, and without a value it still does
abbrev pub BareRowKeepsItsWeight : Type 0
BareRowKeepsItsWeight = solved counting two_ways_with_value ≡ (gives_both x1 ten, 1) ∷ (gives x2, 2) ∷ []

abbrev pub PresenceIsOneForAll : Type 0
PresenceIsOneForAll =
    (solved presence substitutes ≡ (gives x1, 1) ∷ (gives x2, 1) ∷ [])
    × (solved presence anything_but_a_value ≡ (gives x1, 1) ∷ (gives x2, 1) ∷ [])
    × (solved presence with_value ≡ (gives_both x1 ten, 1) ∷ (gives x2, 1) ∷ [])
    × (solved presence two_ways_with_value ≡ (gives_both x1 ten, 1) ∷ (gives x2, 1) ∷ [])
