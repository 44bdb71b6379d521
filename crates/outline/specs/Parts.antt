-- The parts of a question that stand before a limit. Nodes from the limit on are not looked at.
use Rattle.std.specs.Prelude.{ℕ, take}
use Rattle.room.specs.Items.{items}
use Rattle.grammar.specs.Grammar.{Paths, Patterns}
use Rattle.question.specs.declared.question.Question.{Question}
use Rattle.question.specs.Arena.{paths_of, path_at, patterns_of, pattern_at}
use Rattle.question.specs.Parts.{env_of}

abbrev pub path_before : Question → ℕ → ℕ → Paths
path_before q limit i = path_at (paths_of (env_of q).term (take limit (items q.paths))) i

abbrev pub pattern_before : Question → ℕ → ℕ → Patterns
pattern_before q limit i = pattern_at (patterns_of (env_of q) (take limit (items q.patterns))) i
