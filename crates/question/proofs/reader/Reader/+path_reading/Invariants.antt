use Rattle.std.proofs.Common.{ℕ, ◌+◌, ◌-◌, ◌*◌, ◌≤◌}
use Rattle.question.specs.Views.{View, view, HeldPath}
use Rattle.question.proofs.Chains.{Sofar, alternating, stepping}
use Rattle.question.proofs.reader.Reader.+path_reading.Given as goal

-- what is left of a text, and then how far down the grammar the function stands
abbrev left : ℕ → ℕ → ℕ
left start rank = 8 * (2048 - start) + rank

abbrev pub decreases-path : goal.decreases-path
decreases-path l = left l.self.now.next.start 4

abbrev pub decreases-sequence : goal.decreases-sequence
decreases-sequence l = left l.self.now.next.start 3

abbrev pub decreases-step : goal.decreases-step
decreases-step l = left l.self.now.next.start 2

abbrev pub decreases-base : goal.decreases-base
decreases-base l = left l.self.now.next.start 1

abbrev pub invariant-path-loop-self : goal.invariant-path-loop-self
invariant-path-loop-self l =
    (l.initial.self.next.start ≤ l.self.next.start)
    × ((p : View) → Sofar alternating HeldPath p (view l.initial.self) l.initial.left → Sofar alternating HeldPath p (view l.self) l.left)

abbrev pub decreases-path-loop-self : goal.decreases-path-loop-self
decreases-path-loop-self l = 2048 - l.self.next.start

abbrev pub invariant-sequence-loop-self : goal.invariant-sequence-loop-self
invariant-sequence-loop-self l =
    (l.initial.self.next.start ≤ l.self.next.start)
    × ((p : View) → Sofar stepping HeldPath p (view l.initial.self) l.initial.left → Sofar stepping HeldPath p (view l.self) l.left)

abbrev pub decreases-sequence-loop-self : goal.decreases-sequence-loop-self
decreases-sequence-loop-self l = 2048 - l.self.next.start
