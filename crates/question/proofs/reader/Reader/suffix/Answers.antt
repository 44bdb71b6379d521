use Rattle.std.proofs.lemmas.Result.{err_from_is_err_and}
use Rattle.question.proofs.Taking.{points, elsewhere}
use Rattle.question.proofs.PathParts.{star_read, once_read, star_fails}
use Rattle.question.proofs.reader.Reader.suffix.Goals as goal

pub returns-in_err-expect-in-Star : goal.returns-in_err-expect-in-Star
returns-in_err-expect-in-Star c =
    let p = err_from_is_err_and c.from_residual.result c.from_residual.ensures.1 in
    rw (p.1, p.2) (record { is = star_fails (points c.args.self.now c.in-Star.is) c.in_err-expect-in-Star.ensures.is })

pub returns-in_ok-expect-in-Star : goal.returns-in_ok-expect-in-Star
returns-in_ok-expect-in-Star c = record { is = star_read (points c.args.self.now c.in-Star.is) c.in_ok-expect-in-Star.ensures.is c.add_path.ensures }

pub returns-in_default : goal.returns-in_default
returns-in_default c = record { is = once_read c.args.base (elsewhere c.args.self.now c.in_default.not-Star) }
