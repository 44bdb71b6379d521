-- How the program tells why it declines.
use Rattle.std.specs.Prelude.{ℕ, None, Option}
use Rattle.grammar.specs.Reading as reading
use Rattle.partfind.specs.declared.declined.Declined.{Declined}
use Rattle.partfind.specs.declared.declined.Declined.TheVariants.{Text, Verdict, File}

abbrev pub number_of : Declined → ℕ
number_of (Text e) = reading.number_of e
number_of (Verdict e) = 7
number_of (File e) = 16

abbrev pub offset_of : Declined → Option ℕ
offset_of (Text e) = reading.offset_of e
offset_of (Verdict e) = None
offset_of (File e) = None
