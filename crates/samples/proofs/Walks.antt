-- What walks over the file of four pages and over the feeders need: the lists are computed, and have exactly what is needed.
use Rattle.std.proofs.Common.{◌≡◌, true, List, [], ◌∷◌, codes, refl}
use Rattle.tokens.specs.Lexed.{cut}
use Rattle.terms.specs.Terms.{Term}
use Rattle.grammar.specs.Grammar.{braces, no_items, items, an_option, some_groups, groups, no_unions, end_iri, end_name, predicate}
use Rattle.semantics.specs.Graphs.{Closed}
use Rattle.semantics.specs.Webs.{by_bytes}
use Rattle.walks.specs.Needs.{needs}
use Rattle.walks.specs.Promises.{whole}
use Rattle.samples.specs.File.{m1, m2, m3, m4, alt, val, ten, twenty_two, forty_seven, triple, graph, Asked, value_of_substitutes, all_substitutes, whom_it_names, any_other_fact, nothing, value_if_given, same_value_as_another, either_of_two, from_literal}
use Rattle.samples.specs.Feeders as feeders
use Rattle.samples.specs.Texts.{Asks}
use Rattle.samples.specs.Walked.{NeedsJust, JustThesePages, JustTheseDocuments, value_first, value_handed_in, reaches_it, TheirTexts, AllFourAreNeeded, FarEndIsNotHandedIn}
use Rattle.samples.proofs.Lists.{within}
use Rattle.samples.proofs.Paged.{pages_closed, needed_just}
use Rattle.samples.proofs.Reading.{asks, step, row, question}

file_closed : Closed by_bytes graph
file_closed = pages_closed _
    ((m1, triple m1 alt m2 ∷ triple m1 alt m3 ∷ []) ∷ (m2, triple m2 val ten ∷ []) ∷ (m3, triple m3 val ten ∷ triple m2 val twenty_two ∷ []) ∷ (m4, triple m4 val forty_seven ∷ []) ∷ [])
    (refl, (refl, (refl, (refl, (refl, (refl, (refl, (refl, (refl, tt))))))))) refl

feeders_closed : Closed by_bytes feeders.graph
feeders_closed = pages_closed _
    ((feeders.b7, triple feeders.b7 feeders.place feeders.c1 ∷ triple feeders.b7 feeders.place feeders.c2 ∷ []) ∷ (feeders.c1, triple feeders.c1 feeders.alt feeders.c3 ∷ []) ∷ (feeders.c2, triple feeders.c2 feeders.alt feeders.c3 ∷ []) ∷ (feeders.c3, triple feeders.c3 feeders.fits feeders.f1 ∷ triple feeders.c3 feeders.fits feeders.f2 ∷ []) ∷ [])
    (refl, (refl, (refl, (refl, (refl, (refl, (refl, (refl, (refl, tt))))))))) refl

page_needs : (q : Asked) (l : List Term) → within (needs by_bytes graph (whole q)) l ≡ true → within l (needs by_bytes graph (whole q)) ≡ true → NeedsJust graph q l
page_needs q l = needed_just file_closed (whole q) l

pub just_these_pages : JustThesePages
just_these_pages = (
  page_needs value_of_substitutes (m1 ∷ m2 ∷ m3 ∷ []) refl refl,
  page_needs all_substitutes (m1 ∷ m2 ∷ m3 ∷ []) refl refl,
  page_needs whom_it_names (m1 ∷ []) refl refl,
  page_needs any_other_fact (m3 ∷ []) refl refl,
  page_needs nothing [] refl refl,
  page_needs value_if_given (m1 ∷ m2 ∷ m3 ∷ []) refl refl,
  page_needs same_value_as_another (m1 ∷ m2 ∷ m3 ∷ m4 ∷ []) refl refl,
  page_needs either_of_two (m1 ∷ []) refl refl,
  page_needs from_literal [] refl refl,
)

pub just_these_documents : JustTheseDocuments
just_these_documents =
    let four = feeders.b7 ∷ feeders.c1 ∷ feeders.c2 ∷ feeders.c3 ∷ [] in
    (needed_just feeders_closed _ four refl refl, needed_just feeders_closed _ four refl refl)

their_texts_first : Asks (codes "{ <m:4> <p:val> ?v . { <m:1> <p:alt> ?x . OPTIONAL { ?x <p:val> ?v . } } }") value_first
unfolding cut
their_texts_first = asks (codes "{ <m:4> <p:val> ?v . { <m:1> <p:alt> ?x . OPTIONAL { ?x <p:val> ?v . } } }")
    (question (items (row (end_iri (codes "m:4")) (step (predicate (codes "p:val"))) (end_name (codes "v"))) (items (some_groups (groups (braces (items (row (end_iri (codes "m:1")) (step (predicate (codes "p:alt"))) (end_name (codes "x"))) (items (an_option (braces (items (row (end_name (codes "x")) (step (predicate (codes "p:val"))) (end_name (codes "v"))) no_items))) no_items))) no_unions)) no_items)))
    value_first refl refl refl refl refl

their_texts_second : Asks (codes "{ <m:4> <p:val> ?v . <m:1> <p:alt> ?x . OPTIONAL { ?x <p:val> ?v . } }") value_handed_in
unfolding cut
their_texts_second = asks (codes "{ <m:4> <p:val> ?v . <m:1> <p:alt> ?x . OPTIONAL { ?x <p:val> ?v . } }")
    (question (items (row (end_iri (codes "m:4")) (step (predicate (codes "p:val"))) (end_name (codes "v"))) (items (row (end_iri (codes "m:1")) (step (predicate (codes "p:alt"))) (end_name (codes "x"))) (items (an_option (braces (items (row (end_name (codes "x")) (step (predicate (codes "p:val"))) (end_name (codes "v"))) no_items))) no_items))))
    value_handed_in refl refl refl refl refl

pub their_texts : TheirTexts
their_texts = (their_texts_first, their_texts_second)

pub all_four_are_needed : AllFourAreNeeded
all_four_are_needed = page_needs value_first (m4 ∷ m1 ∷ m2 ∷ m3 ∷ []) refl refl

pub far_end_is_not_handed_in : FarEndIsNotHandedIn
far_end_is_not_handed_in = page_needs reaches_it (m1 ∷ m2 ∷ m3 ∷ []) refl refl
