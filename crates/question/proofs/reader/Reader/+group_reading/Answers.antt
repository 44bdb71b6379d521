use Rattle.std.proofs.Common.{sym, ap, ◌∙◌, arith}
use Rattle.std.proofs.lemmas.Result.{err_from_is_err_and}
use Rattle.question.specs.Views.{view}
use Rattle.question.specs.Outcomes.{begins_item}
use Rattle.question.proofs.Fitting.{pattern_there, left_there, union_fits, opt_fits, past, past_free, pattern_still, left_still, emptied_there}
use Rattle.question.proofs.Taking.{next_sort, points, elsewhere}
use Rattle.question.proofs.Lengths.{fewer}
use Rattle.question.proofs.Holding.{pattern_stays, onward_then}
use Rattle.question.proofs.Placing.{went_pattern, union_placed}
use Rattle.question.proofs.PathParts.{took_onward, read_onward}
use Rattle.question.proofs.PatternParts.{group_sign, group_inner, group_close, group_read, item_line_fails, item_line, item_groups_fails, item_groups, option_sign, option_fails, option_read, combined, items_begun, item_fails, items_more, items_read}
use Rattle.question.proofs.Chains.{uniting, first_fails, begun, ended, sign_fails, part_fails, another}
use Rattle.question.proofs.reader.Reader.+group_reading.Goals as goal

-- ---- group

pub group-returns-in_err-expect : goal.group-returns-in_err-expect
group-returns-in_err-expect t c =
    let p = err_from_is_err_and c.from_residual.result c.from_residual.ensures.1 in
    rw (p.1, p.2) (record { is = group_sign c.in_err-expect.ensures.is })

pub group-returns-in_err-inner : goal.group-returns-in_err-inner
group-returns-in_err-inner t c =
    let p = err_from_is_err_and c.from_residual-in_err-inner.result c.from_residual-in_err-inner.ensures.1 in
    rw (p.1, p.2) (record { is = group_inner c.in_ok-expect.ensures.is c.in_err-inner.ensures.is })

pub group-returns-in_err-expect-2 : goal.group-returns-in_err-expect-2
group-returns-in_err-expect-2 t c =
    let p = err_from_is_err_and c.from_residual-in_err-expect-2.result c.from_residual-in_err-expect-2.ensures.1 in
    rw (p.1, p.2) (record { is = group_close c.in_ok-expect.ensures.is c.in_ok-inner.ensures.is c.in_err-expect-2.ensures.is })

pub group-returns : goal.group-returns
group-returns t c = record { is = group_read c.in_ok-expect.ensures.is c.in_ok-inner.ensures.is c.in_ok-expect-2.ensures.is c.or_empty.ensures }

-- ---- item

pub item-returns-in_err-expect-in-Optional : goal.item-returns-in_err-expect-in-Optional
item-returns-in_err-expect-in-Optional t c =
    let p = err_from_is_err_and c.from_residual.result c.from_residual.ensures.1 in
    rw (p.1, p.2) (record { is = option_sign (points c.args.self.now c.in-Optional.is) c.in_err-expect-in-Optional.ensures.is })

pub item-returns-in_err-right-in-Optional : goal.item-returns-in_err-right-in-Optional
item-returns-in_err-right-in-Optional t c =
    let p = err_from_is_err_and c.from_residual-in_err-right-in-Optional.result c.from_residual-in_err-right-in-Optional.ensures.1 in
    rw (p.1, p.2) (record { is = option_fails (points c.args.self.now c.in-Optional.is) c.args.left c.or_empty-left.result c.in_ok-expect-in-Optional.ensures.is c.or_empty-left.ensures c.in_err-right-in-Optional.ensures.is })

pub item-returns-in_ok-right-in-Optional : goal.item-returns-in_ok-right-in-Optional
item-returns-in_ok-right-in-Optional t c = record { is = option_read (points c.args.self.now c.in-Optional.is) c.args.left c.or_empty-left.result c.in_ok-expect-in-Optional.ensures.is c.or_empty-left.ensures c.in_ok-right-in-Optional.ensures.is c.add_pattern.ensures }

pub item-returns-in_err-right-in-OpenBrace : goal.item-returns-in_err-right-in-OpenBrace
item-returns-in_err-right-in-OpenBrace t c =
    let p = err_from_is_err_and c.from_residual-in_err-right-in-OpenBrace.result c.from_residual-in_err-right-in-OpenBrace.ensures.1 in
    rw (p.1, p.2) (record { is = item_groups_fails (points c.args.self.now c.in-OpenBrace.is) c.in_err-right-in-OpenBrace.ensures.is })

pub item-returns-in_ok-right-in-OpenBrace : goal.item-returns-in_ok-right-in-OpenBrace
item-returns-in_ok-right-in-OpenBrace t c = record { is = item_groups (points c.args.self.now c.in-OpenBrace.is) c.in_ok-right-in-OpenBrace.ensures.is (combined c.args.left c.in_ok-right-in-OpenBrace.right c.join.ensures) }

pub item-returns-in_err-right-in_default : goal.item-returns-in_err-right-in_default
item-returns-in_err-right-in_default t c =
    let p = err_from_is_err_and c.from_residual-in_err-right-in_default.result c.from_residual-in_err-right-in_default.ensures.1 in
    rw (p.1, p.2) (record { is = item_line_fails (elsewhere c.args.self.now c.in_default.not-Optional) (elsewhere c.args.self.now c.in_default.not-OpenBrace) c.in_err-right-in_default.ensures.is })

pub item-returns-in_ok-right-in_default : goal.item-returns-in_ok-right-in_default
item-returns-in_ok-right-in_default t c = record { is = item_line (elsewhere c.args.self.now c.in_default.not-Optional) (elsewhere c.args.self.now c.in_default.not-OpenBrace) c.in_ok-right-in_default.ensures.is (combined c.args.left c.in_ok-right-in_default.right c.join-in_default.ensures) }

-- ---- items

pub items-loop-self-init : goal.items-loop-self-init
items-loop-self-init t c = items_begun (view c.args.self.now)

pub items-returns-in_err-item : goal.items-returns-in_err-item
items-returns-in_err-item t c =
    let p = err_from_is_err_and c.from_residual.result c.from_residual.ensures.1 in
    rw (p.1, p.2) (record { is = item_fails c.loop-self.invariant (ap begins_item (next_sort c.loop-self.self) ∙ sym c.at_item.ensures ∙ c.loop-self-test.true) c.in_err-item.ensures.is })

pub items-loop-self-smaller : goal.items-loop-self-smaller
items-loop-self-smaller t c = let h = c.in_ok-item.ensures.is in fewer h.tree (view c.loop-self.self).spots (view c.item.new.self).spots h.reads

pub items-loop-self-preserved : goal.items-loop-self-preserved
items-loop-self-preserved t c = items_more c.loop-self.invariant (ap begins_item (next_sort c.loop-self.self) ∙ sym c.at_item.ensures ∙ c.loop-self-test.true) c.in_ok-item.ensures.is

pub items-returns : goal.items-returns
items-returns t c = record { is = items_read c.loop-self.invariant (ap begins_item (next_sort c.loop-self.self) ∙ sym c.at_item.ensures ∙ c.loop-self-test.false) }

-- ---- groups

pub groups-returns-in_err-left : goal.groups-returns-in_err-left
groups-returns-in_err-left t c =
    let p = err_from_is_err_and c.from_residual.result c.from_residual.ensures.1 in
    rw (p.1, p.2) (record { is = first_fails uniting c.in_err-left.ensures.is })

pub groups-returns-in_err-expect : goal.groups-returns-in_err-expect
groups-returns-in_err-expect t c =
    let p = err_from_is_err_and c.from_residual-in_err-expect.result c.from_residual-in_err-expect.ensures.1 in
    rw (p.1, p.2) (record { is = sign_fails uniting (c.loop-self.invariant.1 (view c.args.self.now) (begun uniting c.in_ok-left.ensures.is)) (points c.loop-self.self c.in-Union.is) c.in_err-expect.ensures.is })

pub groups-returns-in_err-right : goal.groups-returns-in_err-right
groups-returns-in_err-right t c =
    let p = err_from_is_err_and c.from_residual-in_err-right.result c.from_residual-in_err-right.ensures.1 in
    rw (p.1, p.2) (record { is = part_fails uniting (c.loop-self.invariant.1 (view c.args.self.now) (begun uniting c.in_ok-left.ensures.is)) (points c.loop-self.self c.in-Union.is) c.in_ok-expect.ensures.is c.in_err-right.ensures.is })

pub groups-loop-self-preserved : goal.groups-loop-self-preserved
groups-loop-self-preserved t c =
    let sign = c.in_ok-expect.ensures.is in
    let right = c.in_ok-right.ensures.is in
    let node = c.add_pattern-left.ensures in (
      omega (arith, c.loop-self.invariant.0, sign.falls, right.went.kept.forward, node.placed.start),
      λ p s. another uniting (c.loop-self.invariant.1 p s) (points c.loop-self.self c.in-Union.is) sign right node.placed (went_pattern node)
          (λ f u v l r. let g = node.placed.free f in union_placed node (pattern_stays (onward_then (took_onward sign (right.went.kept.free g)) (read_onward right.went g)) l) r f),
    )

pub groups-returns : goal.groups-returns
groups-returns t c = record { is = ended uniting (c.loop-self.invariant.1 (view c.args.self.now) (begun uniting c.in_ok-left.ensures.is)) (elsewhere c.loop-self.self c.in_default.not-Union) }

-- ---- what the nodes name is there

pub groups-add_pattern-left-requires : goal.groups-add_pattern-left-requires
groups-add_pattern-left-requires t c =
    let sofar = (c.loop-self.invariant.1 (view c.args.self.now) (begun uniting c.in_ok-left.ensures.is)) in
    let sign = c.in_ok-expect.ensures.is in
    let right = c.in_ok-right.ensures.is in
    union_fits (λ f. pattern_stays (past sign right.went f) (sofar.held (past_free sign right.went f))) right.held

pub item-add_pattern-requires : goal.item-add_pattern-requires
item-add_pattern-requires t c =
    let right = c.in_ok-right-in-Optional.ensures.is in
    let before = left_still c.args.self.now c.expect.new.self c.args.left c.requires c.in_ok-expect-in-Optional.ensures.is.went.kept in
    opt_fits (pattern_still c.or_empty-left.new.self c.group.new.self (emptied_there c.expect.new.self c.or_empty-left.new.self c.args.left c.or_empty-left.result before c.or_empty-left.ensures) right.went.kept) right.held

pub item-join-requires : goal.item-join-requires
item-join-requires t c =
    let right = c.in_ok-right-in-OpenBrace.ensures.is in
    record { left = left_still c.args.self.now c.groups.new.self c.args.left c.requires right.went.kept; right = λ f. pattern_there c.groups.new.self (right.held f) }

pub item-join-requires-in_default : goal.item-join-requires-in_default
item-join-requires-in_default t c =
    let right = c.in_ok-right-in_default.ensures.is in
    record { left = left_still c.args.self.now c.line.new.self c.args.left c.requires right.went.kept; right = λ f. pattern_there c.line.new.self (right.held f) }

pub items-item-requires : goal.items-item-requires
items-item-requires t c =
    let sofar = c.loop-self.invariant in
    (omega (arith, sofar.went.kept.forward), left_there c.loop-self.self c.loop-self.left sofar.value sofar.held)
