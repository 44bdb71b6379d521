-- Sets of variables as masks: a variable is in the set where its bit is set.
use Rattle.std.specs.Prelude.{ℕ, ◌/◌, ◌%◌, ◌^◌, ◌==◌}
use Rattle.grammar.specs.Bounded.{Vars}

abbrev pub member : ℕ → Vars
member m v = m / 2 ^ v % 2 == 1
