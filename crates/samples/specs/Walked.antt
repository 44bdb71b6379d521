-- What walks over the file of four pages and over the feeders need, as what is needed and nothing else.
use Rattle.std.specs.Prelude.{◌≡◌, true, ◌↔◌, List, [], ◌∷◌, Some, codes}
use Rattle.weights.specs.Codes.{counting}
use Rattle.terms.specs.Terms.{Term}
use Rattle.grammar.specs.Syntax.{link, star, constant, variable, line, and, opt}
use Rattle.grammar.specs.Judged.{judged}
use Rattle.grammar.specs.Numbered.{numbered}
use Rattle.semantics.specs.Terms.{In}
use Rattle.semantics.specs.Graphs.{Graph}
use Rattle.semantics.specs.Webs.{by_bytes}
use Rattle.walks.specs.Plans.{Needed}
use Rattle.walks.specs.Promises.{whole}
use Rattle.samples.specs.File.{m1, m2, m3, m4, alt, val, forty_seven, graph, Asked, value_of_substitutes, all_substitutes, whom_it_names, any_other_fact, nothing, value_if_given, same_value_as_another, either_of_two, from_literal}
use Rattle.samples.specs.Shown.{solved}
use Rattle.samples.specs.Texts.{Asks}
use Rattle.samples.specs.Feeders as feeders

-- a walk needs the documents of these terms, and no others
abbrev pub NeedsJust : Graph Term → Asked → List Term → Type 0
NeedsJust G q l = (i : Term) → Needed by_bytes G (whole q) i ↔ In i l

abbrev pub JustThesePages : Type 0
JustThesePages =
    NeedsJust graph value_of_substitutes (m1 ∷ m2 ∷ m3 ∷ [])
    × NeedsJust graph all_substitutes (m1 ∷ m2 ∷ m3 ∷ [])
    × NeedsJust graph whom_it_names (m1 ∷ [])
    × NeedsJust graph any_other_fact (m3 ∷ [])
    × NeedsJust graph nothing []
    × NeedsJust graph value_if_given (m1 ∷ m2 ∷ m3 ∷ [])
    × NeedsJust graph same_value_as_another (m1 ∷ m2 ∷ m3 ∷ m4 ∷ [])
    × NeedsJust graph either_of_two (m1 ∷ [])
    × NeedsJust graph from_literal []

abbrev pub JustTheseDocuments : Type 0
JustTheseDocuments =
    NeedsJust feeders.graph (numbered feeders.first_names feeders.first) (feeders.b7 ∷ feeders.c1 ∷ feeders.c2 ∷ feeders.c3 ∷ [])
    × NeedsJust feeders.graph (numbered feeders.second_names feeders.second) (feeders.b7 ∷ feeders.c1 ∷ feeders.c2 ∷ feeders.c3 ∷ [])

-- ---- an OPTIONAL that is reached with something fixed

-- { <m:4> <p:val> ?v . { <m:1> <p:alt> ?x . OPTIONAL { ?x <p:val> ?v . } } }
abbrev pub value_first : Asked
value_first =
    and (line (constant m4) (link val) (variable 0))
    (opt (line (constant m1) (link alt) (variable 1)) (line (variable 1) (link val) (variable 0)))

-- { <m:4> <p:val> ?v . <m:1> <p:alt> ?x . OPTIONAL { ?x <p:val> ?v . } }: here the value is the OPTIONAL's to match
abbrev pub value_handed_in : Asked
value_handed_in =
    opt (and (line (constant m4) (link val) (variable 0)) (line (constant m1) (link alt) (variable 1))) (line (variable 1) (link val) (variable 0))

abbrev pub TheirTexts : Type 0
TheirTexts =
    Asks (codes "{ <m:4> <p:val> ?v . { <m:1> <p:alt> ?x . OPTIONAL { ?x <p:val> ?v . } } }") value_first
    × Asks (codes "{ <m:4> <p:val> ?v . <m:1> <p:alt> ?x . OPTIONAL { ?x <p:val> ?v . } }") value_handed_in

abbrev pub BothAreBounded : Type 0
BothAreBounded = (judged value_first 0 ≡ true) × (judged value_handed_in 0 ≡ true)

-- The plan comes to the OPTIONAL with ?v fixed to "47u". But m:2 and m:3 have a value, "10u", which is found whatever is fixed, and which does not fit.
abbrev pub OptionIsAnsweredAlone : Type 0
OptionIsAnsweredAlone = solved counting value_first ≡ []

-- Were "47u" handed into the optional part, no value would match there, and both substitutes would stand without one.
abbrev pub HandedInItWouldDiffer : Type 0
HandedInItWouldDiffer =
    solved counting value_handed_in ≡ (Some forty_seven ∷ Some m2 ∷ [], 1) ∷ (Some forty_seven ∷ Some m3 ∷ [], 1) ∷ []

abbrev pub AllFourAreNeeded : Type 0
AllFourAreNeeded = NeedsJust graph value_first (m4 ∷ m1 ∷ m2 ∷ m3 ∷ [])

-- ---- a star whose far end is fixed

-- { <m:1> <p:alt>* <m:2> . }
abbrev pub reaches_it : Asked
reaches_it = line (constant m1) (star (link alt)) (constant m2)

-- The star walks its whole closure: m:3 is read too, although only m:2 is asked for.
abbrev pub FarEndIsNotHandedIn : Type 0
FarEndIsNotHandedIn = NeedsJust graph reaches_it (m1 ∷ m2 ∷ m3 ∷ [])
