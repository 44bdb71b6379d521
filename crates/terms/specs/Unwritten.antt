-- The numbers that tell why a term was not written into a buffer.
use Rattle.std.specs.Prelude.{ℕ}
use Rattle.terms.specs.declared.unwritten.Unwritten.{Unwritten}
use Rattle.terms.specs.declared.unwritten.Unwritten.TheVariants.{NoSuch, TooShort}

abbrev pub unwritten_number : Unwritten → ℕ
unwritten_number NoSuch = 14
unwritten_number TooShort = 15
