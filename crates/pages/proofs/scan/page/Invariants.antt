use Rattle.std.proofs.Common.{length, Some}
use Rattle.pages.specs.Steps.{Passed}
use Rattle.pages.proofs.scan.page.Given as goal

abbrev pub invariant-loop-line : goal.invariant-loop-line
invariant-loop-line l = Passed l.address l.from.passed l.from.rest.now l.place l.count l.stated (Some l.address) l.behind.passed l.behind.rest.now

abbrev pub decreases-loop-line : goal.decreases-loop-line
decreases-loop-line l = length l.behind.rest.now
