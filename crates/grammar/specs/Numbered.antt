-- Variables by number: a variable's number is the place of its name among the question's names, from 0.
use Rattle.std.specs.Prelude.{◌≡◌, ℕ, suc, ◌<◌, ◌≤◌, Bool, true, cond, not, ◌&&◌, List, [], ◌∷◌, length, get_or, slice_index_or}
use Rattle.tokens.specs.Lexed.{same_bytes}
use Rattle.grammar.specs.Syntax.{End, constant, variable, Pattern, empty, line, and, union, opt}
use Rattle.grammar.specs.Grammar.{Name}
use Rattle.grammar.specs.Limits.{known}
use Rattle.grammar.specs.Reading.{Asked, Question}
use Rattle.grammar.specs.Bounded.{Asks}

-- the first place of a name in a list
abbrev pub place : List Name → Name → ℕ
place [] x = 0
place (y ∷ ys) x = cond (same_bytes x y) 0 (suc (place ys x))

-- every variable by another one
abbrev pub renumbered_end : {T V W : Type 0} → (V → W) → End T V → End T W
renumbered_end f (constant t) = constant t
renumbered_end f (variable v) = variable (f v)

abbrev pub renumbered : {T V W : Type 0} → (V → W) → Pattern T V → Pattern T W
renumbered f empty = empty
renumbered f (line a p b) = line (renumbered_end f a) p (renumbered_end f b)
renumbered f (and p q) = and (renumbered f p) (renumbered f q)
renumbered f (union p q) = union (renumbered f p) (renumbered f q)
renumbered f (opt p q) = opt (renumbered f p) (renumbered f q)

-- every variable by the place of its name
abbrev pub numbered_end : {T : Type 0} → List Name → End T Name → End T ℕ
numbered_end ns a = renumbered_end (place ns) a

abbrev pub numbered : {T : Type 0} → List Name → Pattern T Name → Pattern T ℕ
numbered ns p = renumbered (place ns) p

-- what a question asks, its variables by number
abbrev pub asks : Asked → Asks
asks q = numbered q.names q.pattern

-- no name stands twice
abbrev pub distinct : List Name → Bool
distinct [] = true
distinct (x ∷ xs) = not (known x xs) && distinct xs

-- ---- laws

-- names for numbers
abbrev pub named_end : {T : Type 0} → List Name → End T ℕ → End T Name
named_end ns a = renumbered_end (λ v. get_or ns v []) a

abbrev pub named : {T : Type 0} → List Name → Pattern T ℕ → Pattern T Name
named ns p = renumbered (λ v. get_or ns v []) p

-- Each of at most eight names has a number of its own, and every variable has a name: names and numbers say the same.
pub record Faithful (q : Asked) : Type 0 where
  pub few : length q.names ≤ 8
  pub distinct : distinct q.names ≡ true
  pub number : (i : ℕ) → i < length q.names → place q.names (slice_index_or q.names i []) ≡ i
  pub name : named q.names (asks q) ≡ q.pattern

abbrev pub NumbersAreFaithful : Type 0
NumbersAreFaithful = (text : List ℕ) (q : Asked) → Question text q → Faithful q
