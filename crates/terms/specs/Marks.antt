-- The marks that stand around a term where it is written: < and >, or " twice.
use Rattle.std.specs.Prelude.{ℕ}
use Rattle.terms.specs.declared.kind.Kind.{Kind}
use Rattle.terms.specs.declared.kind.Kind.TheVariants.{Iri, Literal}

abbrev pub opening : Kind → ℕ
opening Iri = 60
opening Literal = 34

abbrev pub closing : Kind → ℕ
closing Iri = 62
closing Literal = 34
