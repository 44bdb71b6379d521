use Rattle.std.proofs.lemmas.Result.{err_from_is_err_and}
use Rattle.question.proofs.Fitting.{line_fits}
use Rattle.question.proofs.PatternParts.{line_first, line_path, line_second, line_dot, line_read}
use Rattle.question.proofs.reader.Reader.line.Goals as goal

pub returns-in_err-subject : goal.returns-in_err-subject
returns-in_err-subject c =
    let p = err_from_is_err_and c.from_residual.result c.from_residual.ensures.1 in
    rw (p.1, p.2) (record { is = line_first c.in_err-subject.ensures.is })

pub returns-in_err-path : goal.returns-in_err-path
returns-in_err-path c =
    let p = err_from_is_err_and c.from_residual-in_err-path.result c.from_residual-in_err-path.ensures.1 in
    rw (p.1, p.2) (record { is = line_path c.in_ok-subject.ensures.is c.in_err-path.ensures.is })

pub returns-in_err-object : goal.returns-in_err-object
returns-in_err-object c =
    let p = err_from_is_err_and c.from_residual-in_err-object.result c.from_residual-in_err-object.ensures.1 in
    rw (p.1, p.2) (record { is = line_second c.in_ok-subject.ensures.is c.in_ok-path.ensures.is c.in_err-object.ensures.is })

pub returns-in_err-expect : goal.returns-in_err-expect
returns-in_err-expect c =
    let p = err_from_is_err_and c.from_residual-in_err-expect.result c.from_residual-in_err-expect.ensures.1 in
    rw (p.1, p.2) (record { is = line_dot c.in_ok-subject.ensures.is c.in_ok-path.ensures.is c.in_ok-object.ensures.is c.in_err-expect.ensures.is })

pub returns : goal.returns
returns c = record { is = line_read c.in_ok-subject.ensures.is c.in_ok-path.ensures.is c.in_ok-object.ensures.is c.in_ok-expect.ensures.is c.add_pattern.ensures }

pub add_pattern-requires : goal.add_pattern-requires
add_pattern-requires c = line_fits c.in_ok-subject.ensures.is c.in_ok-path.ensures.is c.in_ok-object.ensures.is c.in_ok-expect.ensures.is
