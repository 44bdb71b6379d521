-- What a node asks of the state that it is added in, unless there are too many nodes already.
use Rattle.std.specs.Prelude.{◌≡◌, ℕ, ◌<◌, ◌≤◌, false, Some, None, Option, length}
use Rattle.room.specs.Items.{items}
use Rattle.question.specs.declared.node.PathNode.{PathNode}
use Rattle.question.specs.declared.node.PatternNode.{PatternNode}
use Rattle.question.specs.declared.reader.Reader.{Reader}
use Rattle.question.specs.Behind.{path_from, path_terms, pattern_from, pattern_paths, pattern_terms, pattern_names}

pub record PathFits (r : Reader) (x : PathNode) : Type 0 where
  pub from : r.full ≡ false → path_from x ≤ length (items r.built.paths)
  pub terms : r.full ≡ false → path_terms x ≤ length (items r.built.terms)

pub record PatternFits (r : Reader) (x : PatternNode) : Type 0 where
  pub from : r.full ≡ false → pattern_from x ≤ length (items r.built.patterns)
  pub paths : r.full ≡ false → pattern_paths x ≤ length (items r.built.paths)
  pub terms : r.full ≡ false → pattern_terms x ≤ length (items r.built.terms)
  pub names : r.full ≡ false → pattern_names x ≤ length (items r.built.names)

-- an index of a path or a pattern that is there
abbrev pub PathThere : Reader → ℕ → Type 0
PathThere r i = r.full ≡ false → i < length (items r.built.paths)

abbrev pub PatternThere : Reader → ℕ → Type 0
PatternThere r i = r.full ≡ false → i < length (items r.built.patterns)

abbrev pub LeftThere : Reader → Option ℕ → Type 0
LeftThere r None = Unit {0}
LeftThere r (Some i) = PatternThere r i
