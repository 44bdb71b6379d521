-- What a Web's meaning finds for each term, as the definitions of what a question means ask for it.
use Rattle.std.specs.Prelude.{ℕ, cond, List, [], ◌∷◌}
use Rattle.terms.specs.Terms.{Term}
use Rattle.semantics.specs.Webs.{Triple, is_iri_kind, Found}
use Rattle.web.specs.Laws.{Lawful}
use Rattle.web.specs.Meaning.{Looked, triples}
use Rattle.web.specs.Meaning as web

-- A triple as a Web lists it, and as questions have it: the one has terms, the other is over any type of terms.
abbrev pub as_triple : web.Triple → Triple Term
as_triple t = record { subject = t.subject; predicate = t.predicate; object = t.object }

abbrev pub as_triples : List web.Triple → List (Triple Term)
as_triples [] = []
as_triples (t ∷ ts) = as_triple t ∷ as_triples ts

-- The list that is found for a term. Only IRIs are looked up; where one is absent or broken there is no triple.
abbrev pub found_of : {C : Type 0} → (List ℕ → Looked C) → Term → List (Triple Term)
found_of meaning t = cond (is_iri_kind t.kind) (as_triples (triples (meaning t.bytes))) []

-- Whatever the type C of causes: what a lawful meaning finds is what the laws of questions ask of a Web, nothing for what is no IRI.
abbrev pub LawfulMeaningsAreWebs : Type 0 → Type 0
LawfulMeaningsAreWebs C = (meaning : List ℕ → Looked C) → ((iri : List ℕ) → Lawful iri (meaning iri)) → Found (found_of meaning)
