-- What the nodes of a question stand for, whatever its terms and variables are. Nodes are read in order, and each has the meanings of those before it at hand.
use Rattle.std.specs.Prelude.{ℕ, zero, suc, ◌+◌, List, [], ◌∷◌, ◌++◌, map, slice_index_or}
use Rattle.terms.specs.Terms.{Term}
use Rattle.tokens.specs.Lexed.{part}
use Rattle.grammar.specs.Syntax as grammar
use Rattle.grammar.specs.Syntax.{Path, Pattern, link, negated, inverse, star, sequence, alternative, constant, variable, empty, line, and, union, opt}
use Rattle.grammar.specs.Grammar.{Name}
use Rattle.question.specs.declared.span.Span.{Span}
use Rattle.question.specs.declared.span.TermSpan.{TermSpan}
use Rattle.question.specs.declared.node.End.{End}
use Rattle.question.specs.declared.node.End.TheVariants as end
use Rattle.question.specs.declared.node.PathNode.{PathNode}
use Rattle.question.specs.declared.node.PathNode.TheVariants as path
use Rattle.question.specs.declared.node.PatternNode.{PatternNode}
use Rattle.question.specs.declared.node.PatternNode.TheVariants as pattern

abbrev pub name_of : List ℕ → Span → Name
name_of text s = part text s.start s.end

abbrev pub term_of : List ℕ → TermSpan → Term
term_of text t = record { kind = t.kind; bytes = part text t.span.start t.span.end }

-- the meanings of nodes in order, each by those before it
abbrev pub grow : {X N : Type 0} → (List X → N → X) → List X → List N → List X
grow h xs [] = xs
grow h xs (n ∷ ns) = grow h (xs ++ h xs n ∷ []) ns

-- the numbers from i on, n of them
abbrev pub up_from : ℕ → ℕ → List ℕ
up_from i zero = []
up_from i (suc n) = i ∷ up_from (i + 1) n

-- the meaning at an index, of a node that stands before
abbrev pub path_at : {T : Type 0} → List (Path T) → ℕ → Path T
path_at ps i = slice_index_or ps i (negated [])

abbrev pub pattern_at : {T V : Type 0} → List (Pattern T V) → ℕ → Pattern T V
pattern_at ps i = slice_index_or ps i empty

abbrev pub path_of : {T : Type 0} → (ℕ → T) → List (Path T) → PathNode → Path T
path_of f ps (path.Link t) = link (f t)
path_of f ps (path.Negated i n) = negated (map f (up_from i n))
path_of f ps (path.Inverse p) = inverse (path_at ps p)
path_of f ps (path.Star p) = star (path_at ps p)
path_of f ps (path.Sequence p q) = sequence (path_at ps p) (path_at ps q)
path_of f ps (path.Alternative p q) = alternative (path_at ps p) (path_at ps q)

abbrev pub end_of : {T V : Type 0} → (ℕ → T) → (ℕ → V) → End ℕ → grammar.End T V
end_of f g (end.Term t) = constant (f t)
end_of f g (end.Variable v) = variable (g v.number)

-- what terms, variables and paths stand for by number
pub record EnvOf (T V : Type 0) : Type 0 where
  pub term : ℕ → T
  pub name : ℕ → V
  pub path : ℕ → Path T

-- as a text says them
abbrev pub Env : Type 0
Env = EnvOf Term Name

abbrev pub pattern_of : {T V : Type 0} → EnvOf T V → List (Pattern T V) → PatternNode → Pattern T V
pattern_of e ps pattern.Empty = empty
pattern_of e ps (pattern.Line l) = line (end_of e.term e.name l.subject) (e.path l.path) (end_of e.term e.name l.object)
pattern_of e ps (pattern.And p q) = and (pattern_at ps p) (pattern_at ps q)
pattern_of e ps (pattern.Union p q) = union (pattern_at ps p) (pattern_at ps q)
pattern_of e ps (pattern.Opt p q) = opt (pattern_at ps p) (pattern_at ps q)

abbrev pub paths_of : {T : Type 0} → (ℕ → T) → List PathNode → List (Path T)
paths_of f ns = grow (path_of f) [] ns

abbrev pub patterns_of : {T V : Type 0} → EnvOf T V → List PatternNode → List (Pattern T V)
patterns_of e ns = grow (pattern_of e) [] ns
