-- What the static plan needs.
use Rattle.std.proofs.Common.{◌≡◌, true, List, [], ◌∷◌, refl}
use Rattle.terms.specs.Terms.{Term}
use Rattle.grammar.specs.Judged.{judged}
use Rattle.semantics.specs.Graphs.{Closed}
use Rattle.semantics.specs.Webs.{by_bytes}
use Rattle.semantics.proofs.Lists.{clash, in_has}
use Rattle.semantics.proofs.Bytes.{by_bytes_exact}
use Rattle.walks.specs.Needs.{needs}
use Rattle.walks.specs.Promises.{whole}
use Rattle.samples.specs.File.{triple, Asked}
use Rattle.samples.specs.Static.{a1, x1, b1, y1, y2, z1, alt, val, names, leads_to, graph, question, NotWhatIsAtHand}
use Rattle.samples.specs.Handed.{option_of_its_own, option_turned, option_behind, option_unfit, group_behind, either, values_backwards, star_backwards, AllAreBounded, OptionIsWalkedAlone, OptionIsJudgedAlone, LeftSideGetsWhatIsFixed, UnfitRowsLeadNowhere, AllIsHandedOn, BothSidesAreWalked, SequenceBeginsOnTheRight, StarBeginsOnTheRight}
use Rattle.samples.specs.Walked.{NeedsJust}
use Rattle.samples.proofs.Lists.{each_passes, within}
use Rattle.samples.proofs.Paged.{pages_closed, needed_just}

closed : Closed by_bytes graph
closed = pages_closed _
    ((a1, triple a1 alt x1 ∷ []) ∷ (x1, triple x1 val y1 ∷ []) ∷ (b1, triple b1 names y2 ∷ []) ∷ (y1, triple y1 leads_to z1 ∷ []) ∷ [])
    (refl, (refl, (refl, (refl, (refl, (refl, (refl, (refl, (refl, (refl, tt)))))))))) refl

needed : (q : Asked) (l : List Term) → within (needs by_bytes graph (whole q)) l ≡ true → within l (needs by_bytes graph (whole q)) ≡ true → NeedsJust graph q l
needed q l = needed_just closed (whole q) l

pub not_what_is_at_hand : NotWhatIsAtHand
not_what_is_at_hand n =
    let l = a1 ∷ x1 ∷ b1 ∷ b1 ∷ y2 ∷ [] in
    clash (in_has by_bytes_exact y1 l ((needed_just closed (whole question) l refl refl y1).0 n)) refl

pub option_is_walked_alone : OptionIsWalkedAlone
option_is_walked_alone = needed option_of_its_own (b1 ∷ a1 ∷ x1 ∷ y1 ∷ []) refl refl

pub option_is_judged_alone : OptionIsJudgedAlone
option_is_judged_alone = needed option_turned (b1 ∷ a1 ∷ x1 ∷ y1 ∷ []) refl refl

pub left_side_gets_what_is_fixed : LeftSideGetsWhatIsFixed
left_side_gets_what_is_fixed = needed option_behind (a1 ∷ x1 ∷ y1 ∷ []) refl refl

pub unfit_rows_lead_nowhere : UnfitRowsLeadNowhere
unfit_rows_lead_nowhere = needed option_unfit (b1 ∷ a1 ∷ x1 ∷ []) refl refl

pub all_is_handed_on : AllIsHandedOn
all_is_handed_on = needed group_behind (a1 ∷ b1 ∷ x1 ∷ []) refl refl

pub both_sides_are_walked : BothSidesAreWalked
both_sides_are_walked = needed either (a1 ∷ b1 ∷ []) refl refl

pub sequence_begins_on_the_right : SequenceBeginsOnTheRight
sequence_begins_on_the_right = needed values_backwards (a1 ∷ x1 ∷ []) refl refl

pub star_begins_on_the_right : StarBeginsOnTheRight
star_begins_on_the_right = needed star_backwards (a1 ∷ x1 ∷ []) refl refl

pub all_are_bounded : AllAreBounded
all_are_bounded q i =
    each_passes (λ p. judged p 0) (option_of_its_own ∷ option_turned ∷ option_behind ∷ option_unfit ∷ group_behind ∷ either ∷ values_backwards ∷ star_backwards ∷ []) refl q i
