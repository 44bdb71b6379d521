use Rattle.std.proofs.Common.{ℕ, ◌+◌, ◌-◌, ◌*◌, ◌≤◌, length}
use Rattle.question.specs.Views.{View, view, HeldPattern}
use Rattle.question.proofs.Chains.{Sofar, uniting}
use Rattle.question.proofs.PatternParts.{ItemsSofar}
use Rattle.question.proofs.reader.Reader.+group_reading.Given as goal

-- what is left of a text, and then how far down the grammar the function stands
abbrev left : ℕ → ℕ → ℕ
left start rank = 8 * (2048 - start) + rank

abbrev pub decreases-items : goal.decreases-items
decreases-items l = left l.self.now.next.start 4

abbrev pub decreases-item : goal.decreases-item
decreases-item l = left l.self.now.next.start 3

abbrev pub decreases-groups : goal.decreases-groups
decreases-groups l = left l.self.now.next.start 2

abbrev pub decreases-group : goal.decreases-group
decreases-group l = left l.self.now.next.start 1

abbrev pub invariant-groups-loop-self : goal.invariant-groups-loop-self
invariant-groups-loop-self l =
    (l.initial.self.next.start ≤ l.self.next.start)
    × ((p : View) → Sofar uniting HeldPattern p (view l.initial.self) l.initial.left → Sofar uniting HeldPattern p (view l.self) l.left)

abbrev pub decreases-groups-loop-self : goal.decreases-groups-loop-self
decreases-groups-loop-self l = 2048 - l.self.next.start

abbrev pub invariant-items-loop-self : goal.invariant-items-loop-self
invariant-items-loop-self l = ItemsSofar (view l.initial.self) (view l.self) l.left

-- each item takes a token at least
abbrev pub decreases-items-loop-self : goal.decreases-items-loop-self
decreases-items-loop-self l = length (view l.self).spots
