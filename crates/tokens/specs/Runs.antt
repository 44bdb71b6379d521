-- The test for a class of bytes.
use Rattle.std.specs.Prelude.{ℕ, Bool}
use Rattle.terms.specs.Bytes.{blank_byte, iri_byte, literal_byte, word_byte}
use Rattle.tokens.specs.declared.runs.Class.{Class}
use Rattle.tokens.specs.declared.runs.Class.TheVariants.{Blank, Iri, Literal, Word}

abbrev pub passes : Class → ℕ → Bool
passes Blank = blank_byte
passes Iri = iri_byte
passes Literal = literal_byte
passes Word = word_byte
