use Rattle.std.proofs.Common.{[], sym, ap}
use Rattle.room.specs.Items.{items}
use Rattle.grammar.specs.Syntax.{negated}
use Rattle.question.specs.Arena.{path_of}
use Rattle.outline.specs.Outlined.{path_text}
use Rattle.question.specs.Parts.{env_of}
use Rattle.outline.proofs.Adding.{adds_as}
use Rattle.question.proofs.Standing.{past_limit, past_all}
use Rattle.outline.proofs.Standing.{path_here}
use Rattle.outline.proofs.paths.+path_text.Goals as goal

pub put_path-returns-then-index-limit : goal.put_path-returns-then-index-limit
put_path-returns-then-index-limit t c =
    let q = c.args.q.now in
    adds_as (ap path_text (sym (past_limit (path_of (env_of q).term) (items q.paths) c.args.limit c.args.index (negated []) c.if-index-limit.true))) c.put.ensures

pub put_path-returns-in_default : goal.put_path-returns-in_default
put_path-returns-in_default t c =
    let q = c.args.q.now in
    adds_as (ap path_text (sym (past_all (path_of (env_of q).term) (items q.paths) c.args.limit c.args.index (negated []) c.in_default.ensures))) c.put-in_default.ensures

pub put_path-returns-in-Link : goal.put_path-returns-in-Link
put_path-returns-in-Link t c = adds_as (path_here c.args.q.now c.args.limit c.args.index _ _ c.if-index-limit.false c.in-Some.ensures c.in-Link.is) c.put_term.ensures

pub put_path-returns-in-Negated : goal.put_path-returns-in-Negated
put_path-returns-in-Negated t c = adds_as (path_here c.args.q.now c.args.limit c.args.index _ _ c.if-index-limit.false c.in-Some.ensures c.in-Negated.is) c.put_negated.ensures

pub put_path-returns-in-Inverse : goal.put_path-returns-in-Inverse
put_path-returns-in-Inverse t c = adds_as (path_here c.args.q.now c.args.limit c.args.index _ _ c.if-index-limit.false c.in-Some.ensures c.in-Inverse.is) c.put_one.ensures

pub put_path-returns-in-Star : goal.put_path-returns-in-Star
put_path-returns-in-Star t c = adds_as (path_here c.args.q.now c.args.limit c.args.index _ _ c.if-index-limit.false c.in-Some.ensures c.in-Star.is) c.put_one-in-Star.ensures

pub put_path-returns-in-Sequence : goal.put_path-returns-in-Sequence
put_path-returns-in-Sequence t c = adds_as (path_here c.args.q.now c.args.limit c.args.index _ _ c.if-index-limit.false c.in-Some.ensures c.in-Sequence.is) c.put_two.ensures

pub put_path-returns-in-Alternative : goal.put_path-returns-in-Alternative
put_path-returns-in-Alternative t c = adds_as (path_here c.args.q.now c.args.limit c.args.index _ _ c.if-index-limit.false c.in-Some.ensures c.in-Alternative.is) c.put_two-in-Alternative.ensures
