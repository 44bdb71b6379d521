-- The rounds of one walk.
use Rattle.std.proofs.Common.{◌≡◌, true, ◌&&◌, List, [], ◌∷◌, ◌++◌, refl}
use Rattle.std.proofs.lemmas.Bool.{and_parts}
use Rattle.terms.specs.Terms.{Term}
use Rattle.semantics.specs.Terms.{has}
use Rattle.semantics.specs.Graphs.{Graph, Closed}
use Rattle.semantics.specs.Webs.{Universe, by_bytes}
use Rattle.semantics.proofs.Lists.{has_in}
use Rattle.semantics.proofs.Bytes.{by_bytes_exact}
use Rattle.semantics.proofs.Universes.{web_closed}
use Rattle.walks.specs.Plans.{Needed}
use Rattle.walks.specs.Needs.{needs}
use Rattle.walks.specs.Promises.{whole}
use Rattle.walks.specs.Shelves.{shelf_by, shelf_graph, readable, Settled, begins, looks, Course}
use Rattle.walks.proofs.Recorded.{record_decides, shelf_terms, shelf_universe}
use Rattle.walks.proofs.Listed.{needs_are_listed}
use Rattle.samples.specs.Feeders.{b7, c1, c2, c3}
use Rattle.samples.specs.Rounds.{four, tells, question, OneCourse, FourDocumentsDecide}
use Rattle.samples.proofs.Lists.{each_passes}

abbrev terms_of : List Term → List Term
terms_of recorded = shelf_terms by_bytes_exact tells recorded question

its_universe : (recorded : List Term) → Universe by_bytes (shelf_by by_bytes tells recorded) question (terms_of recorded)
its_universe recorded = shelf_universe by_bytes_exact tells recorded question

abbrev shelf_of : List Term → Graph Term
shelf_of recorded = shelf_graph by_bytes tells recorded (terms_of recorded)

closed : (recorded : List Term) → Closed by_bytes (shelf_of recorded)
closed recorded = web_closed by_bytes_exact (shelf_by by_bytes tells recorded) question (terms_of recorded) (its_universe recorded)

needed_there : (recorded : List Term) (i : Term) → has by_bytes i (needs by_bytes (shelf_of recorded) (whole question)) ≡ true → Needed by_bytes (shelf_of recorded) (whole question) i
needed_there recorded i h =
    let l = needs by_bytes (shelf_of recorded) (whole question) in
    (needs_are_listed by_bytes by_bytes_exact (shelf_of recorded) (closed recorded) (whole question) i).1 (has_in by_bytes_exact i l h)

turn : (looked : List Term) (i : Term) → Course by_bytes tells question [] looked → has by_bytes i (needs by_bytes (shelf_of (looked ++ [])) (whole question)) ≡ true
    → Course by_bytes tells question [] (i ∷ looked)
turn looked i c h = looks c (its_universe (looked ++ [])) (needed_there (looked ++ []) i h)

pub one_course : OneCourse
one_course = turn (c2 ∷ c1 ∷ b7 ∷ []) c3 (turn (c1 ∷ b7 ∷ []) c2 (turn (b7 ∷ []) c1 (turn [] b7 begins refl) refl) refl) refl

settled : (i : Term) → Needed by_bytes (shelf_of four) (whole question) i → Settled by_bytes tells four i
settled i n =
    and_parts (has by_bytes i four) (readable (tells i))
    (each_passes (λ a. has by_bytes a four && readable (tells a)) (needs by_bytes (shelf_of four) (whole question)) refl i
    ((needs_are_listed by_bytes by_bytes_exact (shelf_of four) (closed four) (whole question) i).0 n))

pub four_documents_decide : FourDocumentsDecide
four_documents_decide k l w agree U W u z m =
    record_decides by_bytes by_bytes_exact k l tells w four question refl U W (terms_of four) u z (its_universe four) settled agree m
