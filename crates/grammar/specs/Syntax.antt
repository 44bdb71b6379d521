-- The syntax of questions: property paths and graph patterns, over terms of a type T and variables of a type V.
use Rattle.std.specs.Prelude.{ℕ, ◌+◌, List, length}

pub data Path (T : Type 0) : Type 0 where
  -- a predicate
  link : T → Path T
  -- any predicate but these
  negated : List T → Path T
  inverse : Path T → Path T
  star : Path T → Path T
  sequence : Path T → Path T → Path T
  alternative : Path T → Path T → Path T

pub data End (T V : Type 0) : Type 0 where
  constant : T → End T V
  variable : V → End T V

pub data Pattern (T V : Type 0) : Type 0 where
  empty : Pattern T V
  line : End T V → Path T → End T V → Pattern T V
  and : Pattern T V → Pattern T V → Pattern T V
  union : Pattern T V → Pattern T V → Pattern T V
  opt : Pattern T V → Pattern T V → Pattern T V

-- How many nodes a question has. Ends, brackets and groups are none.
abbrev pub path_nodes : {T : Type 0} → Path T → ℕ
path_nodes (link t) = 1
path_nodes (negated ts) = 1 + length ts
path_nodes (inverse p) = path_nodes p + 1
path_nodes (star p) = path_nodes p + 1
path_nodes (sequence p q) = path_nodes p + path_nodes q + 1
path_nodes (alternative p q) = path_nodes p + path_nodes q + 1

abbrev pub nodes : {T V : Type 0} → Pattern T V → ℕ
nodes empty = 1
nodes (line a p b) = path_nodes p + 1
nodes (and p q) = nodes p + nodes q + 1
nodes (union p q) = nodes p + nodes q + 1
nodes (opt p q) = nodes p + nodes q + 1
