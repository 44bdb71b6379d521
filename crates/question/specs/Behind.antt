-- What a node asks of the question that it stands in: every node stands behind its children, and names terms, variables and paths that are there.
use Rattle.std.specs.Prelude.{ℕ, ◌+◌, max}
use Rattle.question.specs.declared.node.End.{End}
use Rattle.question.specs.declared.node.End.TheVariants as end
use Rattle.question.specs.declared.node.PathNode.{PathNode}
use Rattle.question.specs.declared.node.PathNode.TheVariants as path
use Rattle.question.specs.declared.node.PatternNode.{PatternNode}
use Rattle.question.specs.declared.node.PatternNode.TheVariants as pattern

-- the first index at which a path can stand, and how many terms there must be
abbrev pub path_from : PathNode → ℕ
path_from (path.Link t) = 0
path_from (path.Negated first count) = 0
path_from (path.Inverse p) = p + 1
path_from (path.Star p) = p + 1
path_from (path.Sequence p q) = max p q + 1
path_from (path.Alternative p q) = max p q + 1

abbrev pub path_terms : PathNode → ℕ
path_terms (path.Link t) = t + 1
path_terms (path.Negated first count) = first + count
path_terms (path.Inverse p) = 0
path_terms (path.Star p) = 0
path_terms (path.Sequence p q) = 0
path_terms (path.Alternative p q) = 0

abbrev pub end_terms : End ℕ → ℕ
end_terms (end.Term t) = t + 1
end_terms (end.Variable v) = 0

abbrev pub end_names : End ℕ → ℕ
end_names (end.Term t) = 0
end_names (end.Variable v) = v.number + 1

-- the first index at which a pattern can stand, and how many paths, terms and names there must be
abbrev pub pattern_from : PatternNode → ℕ
pattern_from pattern.Empty = 0
pattern_from (pattern.Line l) = 0
pattern_from (pattern.And p q) = max p q + 1
pattern_from (pattern.Union p q) = max p q + 1
pattern_from (pattern.Opt p q) = max p q + 1

abbrev pub pattern_paths : PatternNode → ℕ
pattern_paths pattern.Empty = 0
pattern_paths (pattern.Line l) = l.path + 1
pattern_paths (pattern.And p q) = 0
pattern_paths (pattern.Union p q) = 0
pattern_paths (pattern.Opt p q) = 0

abbrev pub pattern_terms : PatternNode → ℕ
pattern_terms pattern.Empty = 0
pattern_terms (pattern.Line l) = max (end_terms l.subject) (end_terms l.object)
pattern_terms (pattern.And p q) = 0
pattern_terms (pattern.Union p q) = 0
pattern_terms (pattern.Opt p q) = 0

abbrev pub pattern_names : PatternNode → ℕ
pattern_names pattern.Empty = 0
pattern_names (pattern.Line l) = max (end_names l.subject) (end_names l.object)
pattern_names (pattern.And p q) = 0
pattern_names (pattern.Union p q) = 0
pattern_names (pattern.Opt p q) = 0
