-- What the inner functions of judging promise: masks of variables, and verdicts on the nodes of a question.
use Rattle.std.specs.Prelude.{◌≡◌, ℕ, true, false, List, Some, None, Option, slice_index_or}
use Rattle.room.specs.Items.{items}
use Rattle.grammar.specs.Syntax.{Path, Pattern, line}
use Rattle.grammar.specs.Bounded.{Asks}
use Rattle.grammar.specs.Judged.{judged, sure_mask}
use Rattle.grammar.specs.Numbered.{numbered, numbered_end}
use Rattle.question.specs.declared.question.Question.{Question}
use Rattle.question.specs.declared.node.End.{End}
use Rattle.question.specs.Arena.{EnvOf, path_at, paths_of, pattern_at, patterns_of}
use Rattle.question.specs.Asking.{asked}
use Rattle.question.specs.Parts.{end_at, path_is, pattern_is}

-- the pattern at an index, its variables by number
abbrev pub asks_at : Question → ℕ → Asks
asks_at q i = numbered (asked q).names (pattern_is q i)

-- the same with numbers for terms too: what a walk over numbered terms asks
abbrev pub by_number : List ℕ → Question → EnvOf ℕ ℕ
by_number numbers q =
    let term = λ (i : ℕ). slice_index_or numbers i 0 in
    record { term = term; name = λ v. v; path = λ i. path_at (paths_of term (items q.paths)) i }

abbrev pub path_by : List ℕ → Question → ℕ → Path ℕ
path_by numbers q i = (by_number numbers q).path i

abbrev pub asks_by : List ℕ → Question → ℕ → Pattern ℕ ℕ
asks_by numbers q i = pattern_at (patterns_of (by_number numbers q) (items q.patterns)) i

abbrev pub line_at : Question → End ℕ → ℕ → End ℕ → Asks
line_at q a p b = line (numbered_end (asked q).names (end_at q a)) (path_is q p) (numbered_end (asked q).names (end_at q b))

-- the mask of a pattern's sure variables, where it is bounded by a mask
abbrev pub Judges : {T : Type 0} → Pattern T ℕ → ℕ → Option ℕ → Type 0
Judges p m None = judged p m ≡ false
Judges p m (Some s) = (judged p m ≡ true) × (s ≡ sure_mask p)
