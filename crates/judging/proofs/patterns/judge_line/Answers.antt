use Rattle.std.proofs.Common.{sym, ◌∙◌, ap₂}
use lib.Bits.{bit_or}
use Rattle.judging.proofs.Placed.{mask_as, line_walks}
use Rattle.judging.proofs.patterns.judge_line.Goals as goal

pub returns-then-walkable : goal.returns-then-walkable
returns-then-walkable c =
    let q = c.args.q.now in (
      sym (c.if-walkable.ensures ∙ line_walks c.args.q.now c.args.node.subject c.args.node.object c.args.node.path c.args.fixed c.is_fixed.result c.is_fixed-2.result c.requires.subject c.requires.object c.is_fixed.ensures c.is_fixed-2.ensures),
      ap₂ bit_or (c.mask_of.ensures (λ i. i) ∙ mask_as (λ i. i) q c.args.node.subject c.requires.subject) (c.mask_of-then-walkable.ensures (λ i. i) ∙ mask_as (λ i. i) q c.args.node.object c.requires.object),
    )

pub returns-else-walkable : goal.returns-else-walkable
returns-else-walkable c = sym (c.if-walkable.ensures ∙ line_walks c.args.q.now c.args.node.subject c.args.node.object c.args.node.path c.args.fixed c.is_fixed.result c.is_fixed-2.result c.requires.subject c.requires.object c.is_fixed.ensures c.is_fixed-2.ensures)
