-- The texts are questions, by the trees that spell them.
use Rattle.std.proofs.Common.{◌≡◌, ℕ, ◌≤◌, Bool, true, false, ◌&&◌, leb, List, [], ◌∷◌, length, Some, None, codes, Option, refl, arith}
use Rattle.std.proofs.lemmas.Bool.{and_parts}
use Rattle.tokens.specs.Words.{Word}
use Rattle.tokens.specs.Lexed.{tokens, cut}
use Rattle.grammar.specs.declared.refusal.Reason.{Reason}
use Rattle.terms.specs.Terms.{Term}
use Rattle.grammar.specs.Syntax.{Pattern, nodes}
use Rattle.grammar.specs.Grammar.{Tree, is_question, is_path, is_end, is_items, is_item, is_base, whole, braces, no_items, items, a_line, an_option, some_groups, groups, no_unions, ends, end_iri, end_literal, end_name, path, no_alternatives, alternatives, chain, no_steps, steps, forward, backward, once, repeated, predicate, other, one, spell, Name, means}
use Rattle.grammar.specs.Limits.{Seen, nothing, limit, after, gather, Clear}
use Rattle.grammar.specs.Reading.{words}
use Rattle.grammar.specs.Numbered.{numbered}
use Rattle.semantics.proofs.Lists.{clash}
use Rattle.samples.specs.File.{Asked, value_of_substitutes, all_substitutes, who_names_it, whom_it_names, any_other_fact, nothing as asks_nothing, value_if_given, same_value_as_another, either_of_two, from_literal}
use Rattle.samples.specs.Weighed.{substitutes, anything_but_a_value, with_value, two_ways_with_value}
use Rattle.samples.specs.Feeders.{first_names, second_names, first, second}
use Rattle.samples.specs.Texts.{Asks, TextsAskThem, TextsAskForWeights, AsksNamed, PlannersAskThem}

-- ---- a text is a question, by computing

abbrev passes : Option Reason → Bool
passes None = true
passes (Some r) = false

abbrev is_clear : Seen → List Word → Bool
is_clear s [] = true
is_clear s (x ∷ v) = passes (limit s x) && is_clear (after s x) v

passed : (o : Option Reason) → passes o ≡ true → o ≡ None
passed None e = refl
passed (Some r) e = clash e refl

clear : (s : Seen) (v : List Word) → is_clear s v ≡ true → Clear s v
clear s [] e = tt
clear s (x ∷ v) e = let p = and_parts (passes (limit s x)) (is_clear (after s x) v) e in (passed (limit s x) p.0, clear (after s x) v p.1)

at_most : (n m : ℕ) → leb n m ≡ true → n ≤ m
at_most n m e = grind arith

pub asks : (text : List ℕ) (t : Tree is_question) (p : Asked) → leb (length text) 2048 ≡ true → words (tokens text) ≡ spell t []
    → is_clear nothing (words (tokens text)) ≡ true → leb (nodes (means t)) 64 ≡ true
    → numbered (gather nothing (words (tokens text))).names (means t) ≡ p → Asks text p
asks text t p short derives free small same = (
  record { pattern = means t; names = (gather nothing (words (tokens text))).names; terms = (gather nothing (words (tokens text))).terms },
  record {
    tree = t;
    lawful = record { short = at_most (length text) 2048 short; derives = derives; clear = clear nothing (words (tokens text)) free };
    small = at_most (nodes (means t)) 64 small;
    pattern = refl;
    names = refl;
    terms = refl;
  },
  same,
)

-- ---- trees

abbrev pub step : Tree is_base → Tree is_path
step b = path (chain (forward b once) no_steps) no_alternatives

abbrev pub row : Tree is_end → Tree is_path → Tree is_end → Tree is_item
row a p b = a_line (ends a p b)

abbrev pub question : Tree is_items → Tree is_question
question is = whole (braces is)

abbrev alone : Tree is_item → Tree is_question
alone i = question (items i no_items)

values : Asks (codes "{ <m:1> <p:alt>/<p:val> ?v . }") value_of_substitutes
unfolding cut
values = asks (codes "{ <m:1> <p:alt>/<p:val> ?v . }")
    (alone (row (end_iri (codes "m:1")) (path (chain (forward (predicate (codes "p:alt")) once) (steps (forward (predicate (codes "p:val")) once) no_steps)) no_alternatives) (end_name (codes "v"))))
    value_of_substitutes refl refl refl refl refl

all : Asks (codes "{ <m:1> <p:alt>* ?x . }") all_substitutes
unfolding cut
all = asks (codes "{ <m:1> <p:alt>* ?x . }")
    (alone (row (end_iri (codes "m:1")) (path (chain (forward (predicate (codes "p:alt")) repeated) no_steps) no_alternatives) (end_name (codes "x"))))
    all_substitutes refl refl refl refl refl

naming : Asks (codes "{ ?x <p:alt> <m:1> . }") who_names_it
unfolding cut
naming = asks (codes "{ ?x <p:alt> <m:1> . }")
    (alone (row (end_name (codes "x")) (step (predicate (codes "p:alt"))) (end_iri (codes "m:1"))))
    who_names_it refl refl refl refl refl

named : Asks (codes "{ ?x ^<p:alt> <m:1> . }") whom_it_names
unfolding cut
named = asks (codes "{ ?x ^<p:alt> <m:1> . }")
    (alone (row (end_name (codes "x")) (path (chain (backward (predicate (codes "p:alt")) once) no_steps) no_alternatives) (end_iri (codes "m:1"))))
    whom_it_names refl refl refl refl refl

others : Asks (codes "{ <m:3> !<p:alt> ?x . }") any_other_fact
unfolding cut
others = asks (codes "{ <m:3> !<p:alt> ?x . }")
    (alone (row (end_iri (codes "m:3")) (step (other (one (codes "p:alt")))) (end_name (codes "x"))))
    any_other_fact refl refl refl refl refl

none : Asks (codes "{ }") asks_nothing
unfolding cut
none = asks (codes "{ }")
    (question no_items)
    asks_nothing refl refl refl refl refl

given : Asks (codes "{ <m:1> <p:alt> ?x . OPTIONAL { ?x <p:val> ?v . } }") value_if_given
unfolding cut
given = asks (codes "{ <m:1> <p:alt> ?x . OPTIONAL { ?x <p:val> ?v . } }")
    (question (items (row (end_iri (codes "m:1")) (step (predicate (codes "p:alt"))) (end_name (codes "x"))) (items (an_option (braces (items (row (end_name (codes "x")) (step (predicate (codes "p:val"))) (end_name (codes "v"))) no_items))) no_items)))
    value_if_given refl refl refl refl refl

again : Asks (codes "{ { <m:1> <p:alt> ?x . OPTIONAL { ?x <p:val> ?v . } } <m:4> <p:val> ?v . }") same_value_as_another
unfolding cut
again = asks (codes "{ { <m:1> <p:alt> ?x . OPTIONAL { ?x <p:val> ?v . } } <m:4> <p:val> ?v . }")
    (question (items (some_groups (groups (braces (items (row (end_iri (codes "m:1")) (step (predicate (codes "p:alt"))) (end_name (codes "x"))) (items (an_option (braces (items (row (end_name (codes "x")) (step (predicate (codes "p:val"))) (end_name (codes "v"))) no_items))) no_items))) no_unions)) (items (row (end_iri (codes "m:4")) (step (predicate (codes "p:val"))) (end_name (codes "v"))) no_items)))
    same_value_as_another refl refl refl refl refl

either : Asks (codes "{ <m:1> <p:alt>|<p:alt> ?x . }") either_of_two
unfolding cut
either = asks (codes "{ <m:1> <p:alt>|<p:alt> ?x . }")
    (alone (row (end_iri (codes "m:1")) (path (chain (forward (predicate (codes "p:alt")) once) no_steps) (alternatives (chain (forward (predicate (codes "p:alt")) once) no_steps) no_alternatives)) (end_name (codes "x"))))
    either_of_two refl refl refl refl refl

literal : Asks (codes "{ \"10u\" <p:alt>* ?x . }") from_literal
unfolding cut
literal = asks (codes "{ \"10u\" <p:alt>* ?x . }")
    (alone (row (end_literal (codes "10u")) (path (chain (forward (predicate (codes "p:alt")) repeated) no_steps) no_alternatives) (end_name (codes "x"))))
    from_literal refl refl refl refl refl

pub texts_ask_them : TextsAskThem
texts_ask_them = (values, all, naming, named, others, none, given, again, either, literal)

-- ---- the questions about weights

abbrev leading : Tree is_path → Tree is_item
leading p = row (end_iri (codes "a:1")) p (end_name (codes "x"))

abbrev if_valued : Tree is_item
if_valued = an_option (braces (items (row (end_name (codes "x")) (step (predicate (codes "p:val"))) (end_name (codes "v"))) no_items))

one_way : Asks (codes "{ <a:1> <p:alt> ?x . }") substitutes
unfolding cut
one_way = asks (codes "{ <a:1> <p:alt> ?x . }") (alone (leading (step (predicate (codes "p:alt"))))) substitutes refl refl refl refl refl

any_way : Asks (codes "{ <a:1> !<p:val> ?x . }") anything_but_a_value
unfolding cut
any_way = asks (codes "{ <a:1> !<p:val> ?x . }") (alone (leading (step (other (one (codes "p:val")))))) anything_but_a_value refl refl refl refl refl

one_way_valued : Asks (codes "{ <a:1> <p:alt> ?x . OPTIONAL { ?x <p:val> ?v . } }") with_value
unfolding cut
one_way_valued = asks (codes "{ <a:1> <p:alt> ?x . OPTIONAL { ?x <p:val> ?v . } }")
    (question (items (leading (step (predicate (codes "p:alt")))) (items if_valued no_items)))
    with_value refl refl refl refl refl

two_ways_valued : Asks (codes "{ <a:1> <p:alt>|<p:like> ?x . OPTIONAL { ?x <p:val> ?v . } }") two_ways_with_value
unfolding cut
two_ways_valued = asks (codes "{ <a:1> <p:alt>|<p:like> ?x . OPTIONAL { ?x <p:val> ?v . } }")
    (question (items
    (leading (path (chain (forward (predicate (codes "p:alt")) once) no_steps) (alternatives (chain (forward (predicate (codes "p:like")) once) no_steps) no_alternatives)))
    (items if_valued no_items)))
    two_ways_with_value refl refl refl refl refl

pub texts_ask_for_weights : TextsAskForWeights
texts_ask_for_weights = (one_way, any_way, one_way_valued, two_ways_valued)

-- ---- the questions about feeders

asks_named : (text : List ℕ) (t : Tree is_question) (names : List Name) (p : Pattern Term Name) → leb (length text) 2048 ≡ true → words (tokens text) ≡ spell t []
    → is_clear nothing (words (tokens text)) ≡ true → leb (nodes (means t)) 64 ≡ true → (gather nothing (words (tokens text))).names ≡ names → means t ≡ p
    → AsksNamed text names p
asks_named text t names p short derives free small same its = (
  record { pattern = means t; names = (gather nothing (words (tokens text))).names; terms = (gather nothing (words (tokens text))).terms },
  record {
    tree = t;
    lawful = record { short = at_most (length text) 2048 short; derives = derives; clear = clear nothing (words (tokens text)) free };
    small = at_most (nodes (means t)) 64 small;
    pattern = refl;
    names = refl;
    terms = refl;
  },
  same,
  its,
)

abbrev substituting : Tree is_item
substituting =
    row (end_iri (codes "b:7")) (path (chain (forward (predicate (codes "p:place")) once) (steps (forward (predicate (codes "p:alt")) once) no_steps)) no_alternatives)
    (end_name (codes "c"))

abbrev filling : Tree is_item
filling = row (end_name (codes "f")) (path (chain (backward (predicate (codes "p:fits")) once) no_steps) no_alternatives) (end_name (codes "c"))

one_planner : AsksNamed (codes "{ <b:7> <p:place>/<p:alt> ?c . ?f ^<p:fits> ?c . }") first_names first
unfolding cut
one_planner = asks_named (codes "{ <b:7> <p:place>/<p:alt> ?c . ?f ^<p:fits> ?c . }") (question (items substituting (items filling no_items))) first_names first
    refl refl refl refl refl refl

other_planner : AsksNamed (codes "{ ?f ^<p:fits> ?c . <b:7> <p:place>/<p:alt> ?c . }") second_names second
unfolding cut
other_planner = asks_named (codes "{ ?f ^<p:fits> ?c . <b:7> <p:place>/<p:alt> ?c . }") (question (items filling (items substituting no_items))) second_names second
    refl refl refl refl refl refl

pub planners_ask_them : PlannersAskThem
planners_ask_them = (one_planner, other_planner)
