-- The laws that the meaning of every Web keeps.
use Rattle.std.specs.Prelude.{◌≡◌, ℕ, ◌≤◌, Bool, true, false, ◌&&◌, List, [], ◌∷◌, length}
use Rattle.terms.specs.Lawful.{is_iri, lawful as lawful_term}
use Rattle.terms.specs.Terms.{Term}
use Rattle.terms.specs.declared.kind.Kind.{Kind}
use Rattle.terms.specs.declared.kind.Kind.TheVariants.{Iri, Literal}
use Rattle.web.specs.Meaning.{Triple, Looked, absent, triples}

abbrev pub is_kind_iri : Kind → Bool
is_kind_iri Iri = true
is_kind_iri Literal = false

abbrev pub lawful_iri : Term → Bool
lawful_iri t = is_kind_iri t.kind && is_iri t.bytes

-- subject and predicate are IRIs, the object is any term
abbrev pub lawful_triple : Triple → Bool
lawful_triple t = lawful_iri t.subject && lawful_iri t.predicate && lawful_term t.object

abbrev pub lawful_triples : List Triple → Bool
lawful_triples [] = true
lawful_triples (t ∷ ts) = lawful_triple t && lawful_triples ts

-- what a Web may hold at an address
pub record Lawful {C : Type 0} (iri : List ℕ) (l : Looked C) : Type 0 where
  pub no_iri : is_iri iri ≡ false → l ≡ absent
  pub few : length (triples l) ≤ 65535
  pub terms : lawful_triples (triples l) ≡ true
