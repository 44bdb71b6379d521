use Rattle.std.proofs.Common.{◌≡◌, ◌+◌, ◌-◌, ◌++◌, map, vec_items}
use Rattle.question.specs.Arena.{up_from}
use Rattle.outline.specs.Outlined.{members_text}
use Rattle.question.specs.Parts.{env_of}
use Rattle.outline.proofs.paths.put_negated.Given as goal

abbrev pub invariant-loop-i : goal.invariant-loop-i
invariant-loop-i l = vec_items l.out ++ members_text (map (env_of l.q).term (up_from (l.first + l.i) (l.count - l.i))) ≡ vec_items l.initial.out ++ members_text (map (env_of l.q).term (up_from l.first l.count))
