-- Possible solutions are no more than they have to be: each is a solution where optional parts may be left out at will.
use Rattle.std.specs.Prelude.{◌≡◌, ℕ, true, ◌↔◌, ◌≢◌}
use Rattle.grammar.specs.Syntax.{Pattern, empty, line, and, union, opt}
use Rattle.semantics.specs.Terms.{any}
use Rattle.semantics.specs.Rows.{Row, same_row}
use Rattle.semantics.specs.Meaning.{weight_in, possible}
use Rattle.semantics.specs.Laws.{Everywhere}

-- the question in which each OPTIONAL keeps every left solution beside the merges
abbrev pub kept : {A : Type 0} → Pattern A ℕ → Pattern A ℕ
kept empty = empty
kept (line e p f) = line e p f
kept (and p q) = and (kept p) (kept q)
kept (union p q) = union (kept p) (kept q)
kept (opt p q) = union (and (kept p) (kept q)) (kept p)

-- The possible solutions of a question are the solutions of that one, whatever the kind of weight.
abbrev pub PossibleIsKept : Type 0 → Type 0
PossibleIsKept A =
    Everywhere A (λ T G k. (p : Pattern A ℕ) (m : Row A) → (any (same_row T m) (possible T G p) ≡ true) ↔ (weight_in T G k (kept p) m ≢ k.zero))
