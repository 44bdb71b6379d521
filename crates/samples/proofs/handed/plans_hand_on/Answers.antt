use Rattle.samples.proofs.Ordered.{all_are_bounded, option_is_walked_alone, option_is_judged_alone, left_side_gets_what_is_fixed, unfit_rows_lead_nowhere, all_is_handed_on, both_sides_are_walked, sequence_begins_on_the_right, star_begins_on_the_right}
use Rattle.samples.proofs.handed.plans_hand_on.Goals as goal

pub returns : goal.returns
returns c = record {
  bounded = all_are_bounded;
  alone = option_is_walked_alone;
  judged = option_is_judged_alone;
  fixed = left_side_gets_what_is_fixed;
  unfit = unfit_rows_lead_nowhere;
  all = all_is_handed_on;
  both = both_sides_are_walked;
  sequence = sequence_begins_on_the_right;
  star = star_begins_on_the_right;
}
