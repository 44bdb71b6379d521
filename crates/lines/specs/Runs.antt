-- The tests that runs of bytes pass.
use Rattle.std.specs.Prelude.{ℕ, Bool, not, ◌==◌}
use Rattle.terms.specs.Bytes.{iri_byte, literal_byte}
use Rattle.terms.specs.declared.kind.Kind.{Kind}
use Rattle.terms.specs.declared.kind.Kind.TheVariants.{Iri, Literal}

abbrev pub term_byte : Kind → ℕ → Bool
term_byte Iri = iri_byte
term_byte Literal = literal_byte

abbrev pub differs : ℕ → ℕ → Bool
differs c b = not (b == c)
