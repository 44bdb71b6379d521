use Rattle.grammar.proofs.Beginning.{first_part_decides, first_side_decides}
use Rattle.grammar.proofs.Bounding.{bounded_by_more, exchange_keeps_bounds, regrouping_can_unbind}
use Rattle.grammar.proofs.Judging.{mask_is_sure, judging_decides}
use Rattle.grammar.proofs.Walking.{ends_decide}
use Rattle.grammar.proofs.laws.bounds_are_lawful.Goals as goal

pub returns : goal.returns
returns c = record { more = bounded_by_more; exchange = exchange_keeps_bounds; regroup = regrouping_can_unbind; ends = ends_decide; mask = mask_is_sure; verdict = judging_decides; part = first_part_decides; side = first_side_decides }
