use Rattle.std.proofs.lemmas.Result.{err_from_is_err_and}
use Rattle.question.specs.Views.{view}
use Rattle.question.proofs.Taking.{points, elsewhere}
use Rattle.question.proofs.PathParts.{members_begun, member_sign, member_fails, member_more, members_fails, members_read}
use Rattle.question.proofs.reader.Reader.members.Goals as goal

pub loop-self-init : goal.loop-self-init
loop-self-init c = members_begun (view c.args.self.now)

pub returns-in_err-expect : goal.returns-in_err-expect
returns-in_err-expect c =
    let p = err_from_is_err_and c.from_residual.result c.from_residual.ensures.1 in
    let e = points c.loop-self.self c.in-Bar.is in
    rw (p.1, p.2) (record { is = member_sign c.loop-self.invariant e c.in_err-expect.ensures.is })

pub returns-in_err-expect-2 : goal.returns-in_err-expect-2
returns-in_err-expect-2 c =
    let p = err_from_is_err_and c.from_residual-in_err-expect-2.result c.from_residual-in_err-expect-2.ensures.1 in
    let e = points c.loop-self.self c.in-Bar.is in
    rw (p.1, p.2) (record { is = member_fails c.loop-self.invariant e c.in_ok-expect.ensures.is c.in_err-expect-2.ensures.is })

pub loop-self-preserved : goal.loop-self-preserved
loop-self-preserved c =
    let e = points c.loop-self.self c.in-Bar.is in
    member_more c.loop-self.invariant e c.in_ok-expect.ensures.is c.in_ok-expect-2.ensures.is

pub returns-in_err-expect-3 : goal.returns-in_err-expect-3
returns-in_err-expect-3 c =
    let p = err_from_is_err_and c.from_residual-in_err-expect-3.result c.from_residual-in_err-expect-3.ensures.1 in
    rw (p.1, p.2) (record { is = members_fails c.loop-self.invariant (elsewhere c.loop-self.self c.in_default.not-Bar) c.in_err-expect-3.ensures.is })

pub returns : goal.returns
returns c = record { is = members_read c.loop-self.invariant (elsewhere c.loop-self.self c.in_default.not-Bar) c.in_ok-expect-3.ensures.is }
