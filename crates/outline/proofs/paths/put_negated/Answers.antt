use Rattle.std.proofs.Common.{◌+◌, vec_items}
use Rattle.question.specs.Parts.{env_of}
use Rattle.outline.proofs.Adding.{member_more}
use Rattle.outline.proofs.Standing.{term_capped}
use Rattle.outline.proofs.paths.put_negated.Goals as goal

pub loop-i-preserved : goal.loop-i-preserved
loop-i-preserved c =
    let q = c.args.q.now in
    member_more (env_of q).term c.args.first c.args.count c.loop-i.i c.saturating_add.result _ (vec_items c.loop-i.out) (vec_items c.put-in-loop-i.new.out) (vec_items c.put_term.new.out)
    c.loop-i-test.true (term_capped q (c.args.first + c.loop-i.i) c.saturating_add.result c.saturating_add.ensures)
    c.in_ok-put-2.ensures.wrote c.in_ok-put_term.ensures.wrote c.loop-i.invariant
