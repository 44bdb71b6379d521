-- A file of four pages, and questions over it.
use Rattle.std.specs.Prelude.{ℕ, cond, List, [], ◌∷◌, codes}
use Rattle.terms.specs.Terms.{Term}
use Rattle.grammar.specs.Syntax.{link, negated, inverse, star, sequence, alternative, constant, variable, Pattern, empty, line, and, opt}
use Rattle.grammar.specs.Grammar.{iri_term, literal_term}
use Rattle.semantics.specs.Graphs.{Graph}
use Rattle.semantics.specs.Webs.{Triple, graph_of, by_bytes}

abbrev pub m1 : Term
m1 = iri_term (codes "m:1")

abbrev pub m2 : Term
m2 = iri_term (codes "m:2")

abbrev pub m3 : Term
m3 = iri_term (codes "m:3")

abbrev pub m4 : Term
m4 = iri_term (codes "m:4")

abbrev pub alt : Term
alt = iri_term (codes "p:alt")

abbrev pub val : Term
val = iri_term (codes "p:val")

abbrev pub ten : Term
ten = literal_term (codes "10u")

abbrev pub twenty_two : Term
twenty_two = literal_term (codes "22u")

abbrev pub forty_seven : Term
forty_seven = literal_term (codes "47u")

abbrev pub triple : Term → Term → Term → Triple Term
triple a u b = record { subject = a; predicate = u; object = b }

-- the page of m:3 also says something of m:2, which is not in the context of m:2
abbrev pub found : Term → List (Triple Term)
found t =
    cond (by_bytes.same t m1) (triple m1 alt m2 ∷ triple m1 alt m3 ∷ [])
    (cond (by_bytes.same t m2) (triple m2 val ten ∷ [])
    (cond (by_bytes.same t m3) (triple m3 val ten ∷ triple m2 val twenty_two ∷ [])
    (cond (by_bytes.same t m4) (triple m4 val forty_seven ∷ []) [])))

abbrev pub universe : List Term
universe = m1 ∷ m2 ∷ m3 ∷ m4 ∷ alt ∷ val ∷ ten ∷ twenty_two ∷ forty_seven ∷ []

abbrev pub graph : Graph Term
graph = graph_of by_bytes found universe

-- ---- questions

abbrev pub Asked : Type 0
Asked = Pattern Term ℕ

-- { <m:1> <p:alt>/<p:val> ?v . }
abbrev pub value_of_substitutes : Asked
value_of_substitutes = line (constant m1) (sequence (link alt) (link val)) (variable 0)

-- { <m:1> <p:alt>* ?x . }
abbrev pub all_substitutes : Asked
all_substitutes = line (constant m1) (star (link alt)) (variable 0)

-- { ?x <p:alt> <m:1> . }
abbrev pub who_names_it : Asked
who_names_it = line (variable 0) (link alt) (constant m1)

-- { ?x ^<p:alt> <m:1> . }
abbrev pub whom_it_names : Asked
whom_it_names = line (variable 0) (inverse (link alt)) (constant m1)

-- { <m:3> !<p:alt> ?x . }
abbrev pub any_other_fact : Asked
any_other_fact = line (constant m3) (negated (alt ∷ [])) (variable 0)

-- { }
abbrev pub nothing : Asked
nothing = empty

-- { <m:1> <p:alt> ?x . OPTIONAL { ?x <p:val> ?v . } }
abbrev pub value_if_given : Asked
value_if_given = opt (line (constant m1) (link alt) (variable 0)) (line (variable 0) (link val) (variable 1))

-- { { <m:1> <p:alt> ?x . OPTIONAL { ?x <p:val> ?v . } } <m:4> <p:val> ?v . }
abbrev pub same_value_as_another : Asked
same_value_as_another = and value_if_given (line (constant m4) (link val) (variable 1))

-- { <m:1> <p:alt>|<p:alt> ?x . }
abbrev pub either_of_two : Asked
either_of_two = line (constant m1) (alternative (link alt) (link alt)) (variable 0)

-- { "10u" <p:alt>* ?x . }
abbrev pub from_literal : Asked
from_literal = line (constant ten) (star (link alt)) (variable 0)
