-- A term is an IRI or a literal, with its bytes.
use Rattle.std.specs.Prelude.{ℕ, List}
use Rattle.terms.specs.declared.kind.Kind.{Kind}

pub record Term : Type 0 where
  pub kind : Kind
  pub bytes : List ℕ
