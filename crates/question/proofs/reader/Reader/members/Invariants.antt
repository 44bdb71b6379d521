use Rattle.std.proofs.Common.{◌-◌}
use Rattle.question.specs.Views.{view}
use Rattle.question.proofs.PathParts.{MembersSofar}
use Rattle.question.proofs.reader.Reader.members.Given as goal

abbrev pub invariant-loop-self : goal.invariant-loop-self
invariant-loop-self l = MembersSofar (view l.initial.self) (view l.self)

abbrev pub decreases-loop-self : goal.decreases-loop-self
decreases-loop-self l = 2048 - l.self.next.start
