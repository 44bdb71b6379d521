use Rattle.std.proofs.lemmas.Result.{err_from_is_err_and}
use Rattle.question.proofs.Taking.{points, elsewhere}
use Rattle.question.proofs.PatternParts.{iri_fails, iri_read, literal_fails, literal_read, variable_fails, variable_read}
use Rattle.question.proofs.reader.Reader.end.Goals as goal

pub returns-in_err-iri-in-Iri : goal.returns-in_err-iri-in-Iri
returns-in_err-iri-in-Iri c =
    let p = err_from_is_err_and c.from_residual.result c.from_residual.ensures.1 in
    rw (p.1, p.2) (record { is = iri_fails (points c.args.self.now c.in-Iri.is) c.in_err-iri-in-Iri.ensures.is })

pub returns-in_err-literal-in-Literal : goal.returns-in_err-literal-in-Literal
returns-in_err-literal-in-Literal c =
    let p = err_from_is_err_and c.from_residual-in_err-literal-in-Literal.result c.from_residual-in_err-literal-in-Literal.ensures.1 in
    rw (p.1, p.2) (record { is = literal_fails (points c.args.self.now c.in-Literal.is) c.in_err-literal-in-Literal.ensures.is })

pub returns-in_err-number-in_default : goal.returns-in_err-number-in_default
returns-in_err-number-in_default c =
    let p = err_from_is_err_and c.from_residual-in_err-number-in_default.result c.from_residual-in_err-number-in_default.ensures.1 in
    rw (p.1, p.2) (record { is = variable_fails (elsewhere c.args.self.now c.in_default.not-Iri) (elsewhere c.args.self.now c.in_default.not-Literal) c.in_err-number-in_default.ensures.is })

pub returns-in_ok-iri-in-Iri : goal.returns-in_ok-iri-in-Iri
returns-in_ok-iri-in-Iri c = record { is = iri_read (points c.args.self.now c.in-Iri.is) c.in_ok-iri-in-Iri.ensures.is }

pub returns-in_ok-literal-in-Literal : goal.returns-in_ok-literal-in-Literal
returns-in_ok-literal-in-Literal c = record { is = literal_read (points c.args.self.now c.in-Literal.is) c.in_ok-literal-in-Literal.ensures.is }

pub returns-in_ok-number-in_default : goal.returns-in_ok-number-in_default
returns-in_ok-number-in_default c = record { is = variable_read (elsewhere c.args.self.now c.in_default.not-Iri) (elsewhere c.args.self.now c.in_default.not-Literal) c.in_ok-number-in_default.ensures.is }
