use Rattle.std.proofs.Common.{◌≡◌, ◌++◌, drop, vec_items}
use Rattle.question.specs.Asking.{asked}
use Rattle.outline.specs.Outlined.{more_names}
use Rattle.outline.proofs.ends.put_names.Given as goal

abbrev pub invariant-loop-number : goal.invariant-loop-number
invariant-loop-number l = vec_items l.out ++ more_names (drop l.number (asked l.q).names) ≡ vec_items l.initial.out ++ more_names (drop 1 (asked l.q).names)
