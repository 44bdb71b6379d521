-- What a question asks.
use Rattle.std.specs.Prelude.{ℕ, List, [], map, get_or, slice_index_or}
use Rattle.room.specs.Items.{items}
use Rattle.grammar.specs.Syntax.{empty}
use Rattle.grammar.specs.Grammar.{iri_term}
use Rattle.grammar.specs.Reading.{Asked}
use Rattle.question.specs.declared.question.Question.{Question}
use Rattle.question.specs.Arena.{name_of, term_of, Env, paths_of, path_at, patterns_of, pattern_at}

-- what the numbers in a question's nodes stand for
abbrev pub env : List ℕ → Question → Env
env text q =
    let terms = map (term_of text) (items q.terms) in
    let term = λ (i : ℕ). get_or terms i (iri_term []) in
    record { term = term; name = λ i. slice_index_or (map (name_of text) (items q.names)) i []; path = λ i. path_at (paths_of term (items q.paths)) i }

-- what a question asks whose parts are of this text, and whose whole pattern is at this index
abbrev pub asked_at : List ℕ → ℕ → Question → Asked
asked_at text root q = record {
  pattern = pattern_at (patterns_of (env text q) (items q.patterns)) root;
  names = map (name_of text) (items q.names);
  terms = map (term_of text) (items q.terms);
}

abbrev pub asked : Question → Asked
asked q = asked_at (items q.text) q.root q

-- the empty group
abbrev pub nothing_asked : Asked
nothing_asked = record { pattern = empty; names = []; terms = [] }
