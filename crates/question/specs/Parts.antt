-- The parts of a question by number. A number that stands for nothing is the empty IRI, the empty name, the set of nothing or the empty group.
use Rattle.std.specs.Prelude.{ℕ}
use Rattle.room.specs.Items.{items}
use Rattle.terms.specs.Terms.{Term}
use Rattle.grammar.specs.Grammar.{Name, Ends, Paths, Patterns}
use Rattle.question.specs.declared.question.Question.{Question}
use Rattle.question.specs.declared.node.End.{End}
use Rattle.question.specs.Arena.{Env, patterns_of, pattern_at, end_of}
use Rattle.question.specs.Asking.{env}

abbrev pub env_of : Question → Env
env_of q = env (items q.text) q

abbrev pub term_at : Question → ℕ → Term
term_at q i = (env_of q).term i

abbrev pub name_at : Question → ℕ → Name
name_at q i = (env_of q).name i

abbrev pub end_at : Question → End ℕ → Ends
end_at q a = end_of (env_of q).term (env_of q).name a

abbrev pub path_is : Question → ℕ → Paths
path_is q i = (env_of q).path i

abbrev pub pattern_is : Question → ℕ → Patterns
pattern_is q i = pattern_at (patterns_of (env_of q) (items q.patterns)) i
