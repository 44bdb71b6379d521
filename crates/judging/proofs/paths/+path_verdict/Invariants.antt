use Rattle.std.proofs.Common.{◌+◌, ◌*◌, max}
use Rattle.judging.proofs.paths.+path_verdict.Given as goal

abbrev pub decreases-walkable : goal.decreases-walkable
decreases-walkable l = 2 * l.index

abbrev pub decreases-walkable_again : goal.decreases-walkable_again
decreases-walkable_again l = 2 * l.part + 1

abbrev pub decreases-walkable_in_turn : goal.decreases-walkable_in_turn
decreases-walkable_in_turn l = 2 * max l.first l.second + 1
