-- The texts of the questions over the file of four pages, and what they ask.
use Rattle.std.specs.Prelude.{◌≡◌, ℕ, List, codes}
use Rattle.grammar.specs.Reading.{Question}
use Rattle.grammar.specs.Reading as reading
use Rattle.grammar.specs.Numbered.{numbered}
use Rattle.terms.specs.Terms.{Term}
use Rattle.grammar.specs.Syntax.{Pattern}
use Rattle.grammar.specs.Grammar.{Name}
use Rattle.samples.specs.Feeders.{first_names, second_names, first, second}
use Rattle.samples.specs.File.{Asked, value_of_substitutes, all_substitutes, who_names_it, whom_it_names, any_other_fact, nothing, value_if_given, same_value_as_another, either_of_two, from_literal}
use Rattle.samples.specs.Weighed.{substitutes, anything_but_a_value, with_value, two_ways_with_value}

-- a text is a question, and this is its pattern, with variables numbered by their first places
abbrev pub Asks : List ℕ → Asked → Type 0
Asks text p = (q : reading.Asked) × Question text q × (numbered q.names q.pattern ≡ p)

abbrev pub TextsAskThem : Type 0
TextsAskThem =
    Asks (codes "{ <m:1> <p:alt>/<p:val> ?v . }") value_of_substitutes
    × Asks (codes "{ <m:1> <p:alt>* ?x . }") all_substitutes
    × Asks (codes "{ ?x <p:alt> <m:1> . }") who_names_it
    × Asks (codes "{ ?x ^<p:alt> <m:1> . }") whom_it_names
    × Asks (codes "{ <m:3> !<p:alt> ?x . }") any_other_fact
    × Asks (codes "{ }") nothing
    × Asks (codes "{ <m:1> <p:alt> ?x . OPTIONAL { ?x <p:val> ?v . } }") value_if_given
    × Asks (codes "{ { <m:1> <p:alt> ?x . OPTIONAL { ?x <p:val> ?v . } } <m:4> <p:val> ?v . }") same_value_as_another
    × Asks (codes "{ <m:1> <p:alt>|<p:alt> ?x . }") either_of_two
    × Asks (codes "{ \"10u\" <p:alt>* ?x . }") from_literal

abbrev pub TextsAskForWeights : Type 0
TextsAskForWeights =
    Asks (codes "{ <a:1> <p:alt> ?x . }") substitutes
    × Asks (codes "{ <a:1> !<p:val> ?x . }") anything_but_a_value
    × Asks (codes "{ <a:1> <p:alt> ?x . OPTIONAL { ?x <p:val> ?v . } }") with_value
    × Asks (codes "{ <a:1> <p:alt>|<p:like> ?x . OPTIONAL { ?x <p:val> ?v . } }") two_ways_with_value

-- the two questions about feeders, by name
abbrev pub AsksNamed : List ℕ → List Name → Pattern Term Name → Type 0
AsksNamed text names p = (q : reading.Asked) × Question text q × (q.names ≡ names) × (q.pattern ≡ p)

abbrev pub PlannersAskThem : Type 0
PlannersAskThem =
    AsksNamed (codes "{ <b:7> <p:place>/<p:alt> ?c . ?f ^<p:fits> ?c . }") first_names first
    × AsksNamed (codes "{ ?f ^<p:fits> ?c . <b:7> <p:place>/<p:alt> ?c . }") second_names second
