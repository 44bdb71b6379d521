use Rattle.std.proofs.Common.{ap, ◌∙◌, arith, ltb-false, ltb-true}
use Rattle.std.proofs.lemmas.List.{nil_from_length}
use Rattle.std.proofs.lemmas.Result.{err_from_is_err_and}
use Rattle.lines.specs.Readings.{says}
use Rattle.lines.specs.Steps.{triple_of}
use Rattle.lines.proofs.Sayings.{says_nil, says_opening, says_statement, says_bad, at_states_nothing, opens_at}
use Rattle.lines.proofs.saying.said.Goals as goal

pub returns-in_err-opening-in-64 : goal.returns-in_err-opening-in-64
returns-in_err-opening-in-64 c =
    let p = err_from_is_err_and c.from_residual.result c.from_residual.ensures.1 in
    rw (p.1, p.2) (
      says_bad c.args.line.bytes.now (omega (arith, ltb-true, ltb-false)) c.in_err-opening-in-64.ensures.0 (at_states_nothing c.args.line.bytes.now (omega arith)),
      c.in_err-opening-in-64.ensures.1,
    )

pub returns-in_err-statement-in_default : goal.returns-in_err-statement-in_default
returns-in_err-statement-in_default c =
    let p = err_from_is_err_and c.from_residual-in_err-statement-in_default.result c.from_residual-in_err-statement-in_default.ensures.1 in
    rw (p.1, p.2) (
      says_bad c.args.line.bytes.now (omega (arith, ltb-true, ltb-false)) (opens_at c.args.line.bytes.now (λ e. omega arith)) c.in_err-statement-in_default.ensures.0,
      c.in_err-statement-in_default.ensures.1,
    )

pub returns-in-empty : goal.returns-in-empty
returns-in-empty c = ap says (nil_from_length c.args.line.bytes.now (omega (arith, ltb-true, ltb-false))) ∙ says_nil

pub returns-in_ok-opening-in-64 : goal.returns-in_ok-opening-in-64
returns-in_ok-opening-in-64 c = says_opening c.args.line.bytes.now c.in_ok-opening-in-64.field-0.now c.in_ok-opening-in-64.ensures

pub returns-in_ok-statement-in_default : goal.returns-in_ok-statement-in_default
returns-in_ok-statement-in_default c =
    says_statement c.args.line.bytes.now (triple_of c.in_ok-statement-in_default.field-0) (opens_at c.args.line.bytes.now (λ e. omega arith)) c.in_ok-statement-in_default.ensures
