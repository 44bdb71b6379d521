use Rattle.std.proofs.Common.{◌≡◌, Bool, true, false, ◌&&◌, sym, ap, ◌∙◌, arith}
use Rattle.grammar.specs.Walkable.{walkable}
use Rattle.grammar.proofs.Beginning.{first_part_decides}
use Rattle.question.specs.Parts.{env_of, path_is}
use Rattle.question.proofs.Standing.{no_path}
use Rattle.judging.proofs.Placed.{walks_as, path_above}
use Rattle.judging.proofs.paths.+path_verdict.Goals as goal

both : {a b r : Bool} → true ≡ a → r ≡ b → r ≡ a && b
both {a} {b} {r} e f = f ∙ ap (λ x. x && b) e

neither : {a : Bool} (b : Bool) → false ≡ a → false ≡ a && b
neither b e = ap (λ x. x && b) e

pub walkable-returns-in_default : goal.walkable-returns-in_default
walkable-returns-in_default t c = ap (λ p. walkable p c.args.left c.args.right) (sym (no_path (env_of c.args.q.now).term c.args.q.now c.args.index c.in_default.ensures))

pub walkable-walkable-requires : goal.walkable-walkable-requires
walkable-walkable-requires t c = (omega (arith, c.decreases, path_above c.args.q.now c.args.index _ _ c.in-Some.ensures c.in-Inverse.is), tt)

pub walkable-returns-in-Link : goal.walkable-returns-in-Link
walkable-returns-in-Link t c = walks_as c.args.q.now c.args.index _ _ c.in-Some.ensures c.in-Link.is c.args.left c.args.right

pub walkable-returns-in-Negated : goal.walkable-returns-in-Negated
walkable-returns-in-Negated t c = walks_as c.args.q.now c.args.index _ _ c.in-Some.ensures c.in-Negated.is c.args.left c.args.right

pub walkable-returns-in-Inverse : goal.walkable-returns-in-Inverse
walkable-returns-in-Inverse t c = c.walkable.ensures ∙ walks_as c.args.q.now c.args.index _ _ c.in-Some.ensures c.in-Inverse.is c.args.left c.args.right

pub walkable-walkable_again-requires : goal.walkable-walkable_again-requires
walkable-walkable_again-requires t c = (omega (arith, c.decreases, path_above c.args.q.now c.args.index _ _ c.in-Some.ensures c.in-Star.is), tt)

pub walkable-walkable_in_turn-requires : goal.walkable-walkable_in_turn-requires
walkable-walkable_in_turn-requires t c = (omega (arith, c.decreases, path_above c.args.q.now c.args.index _ _ c.in-Some.ensures c.in-Sequence.is), tt)

pub walkable-walkable-requires-in-Alternative : goal.walkable-walkable-requires-in-Alternative
walkable-walkable-requires-in-Alternative t c = (omega (arith, c.decreases, path_above c.args.q.now c.args.index _ _ c.in-Some.ensures c.in-Alternative.is), tt)

pub walkable-walkable-requires-then-walkable : goal.walkable-walkable-requires-then-walkable
walkable-walkable-requires-then-walkable t c = (omega (arith, c.decreases, path_above c.args.q.now c.args.index _ _ c.in-Some.ensures c.in-Alternative.is), tt)

pub walkable-returns-in-Star : goal.walkable-returns-in-Star
walkable-returns-in-Star t c = c.walkable_again.ensures ∙ walks_as c.args.q.now c.args.index _ _ c.in-Some.ensures c.in-Star.is c.args.left c.args.right

pub walkable-returns-in-Sequence : goal.walkable-returns-in-Sequence
walkable-returns-in-Sequence t c = c.walkable_in_turn.ensures ∙ walks_as c.args.q.now c.args.index _ _ c.in-Some.ensures c.in-Sequence.is c.args.left c.args.right

pub walkable-returns-then-walkable : goal.walkable-returns-then-walkable
walkable-returns-then-walkable t c = both c.if-walkable.ensures c.walkable-then-walkable.ensures ∙ walks_as c.args.q.now c.args.index _ _ c.in-Some.ensures c.in-Alternative.is c.args.left c.args.right

pub walkable-returns-else-walkable : goal.walkable-returns-else-walkable
walkable-returns-else-walkable t c = c.if-walkable.false ∙ neither _ c.if-walkable.ensures ∙ walks_as c.args.q.now c.args.index _ _ c.in-Some.ensures c.in-Alternative.is c.args.left c.args.right

pub walkable_in_turn-returns-then-walkable : goal.walkable_in_turn-returns-then-walkable
walkable_in_turn-returns-then-walkable t c = c.walkable-then-walkable.ensures ∙ sym (first_part_decides (path_is c.args.q.now c.args.first) (path_is c.args.q.now c.args.second) c.args.left c.args.right (sym c.if-walkable.ensures))
