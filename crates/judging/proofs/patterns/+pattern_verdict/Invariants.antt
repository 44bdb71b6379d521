use Rattle.std.proofs.Common.{◌+◌, ◌*◌, max}
use Rattle.judging.proofs.patterns.+pattern_verdict.Given as goal

abbrev pub decreases-judge : goal.decreases-judge
decreases-judge l = 2 * l.index

abbrev pub decreases-judge_and : goal.decreases-judge_and
decreases-judge_and l = 2 * max l.left l.right + 1

abbrev pub decreases-judge_opt : goal.decreases-judge_opt
decreases-judge_opt l = 2 * max l.left l.right + 1

abbrev pub decreases-judge_union : goal.decreases-judge_union
decreases-judge_union l = 2 * max l.left l.right + 1
