use Rattle.std.proofs.Common.{◌-◌, ap, ◌∙◌, arith}
use Rattle.std.proofs.lemmas.Result.{err_from_is_err_and}
use Rattle.question.proofs.Holding.{terms_length, passed_length}
use Rattle.question.proofs.Taking.{points, elsewhere}
use Rattle.question.proofs.PathParts.{one_fails, one_read, several_sign, several_first, several_fails, several_read}
use Rattle.question.proofs.reader.Reader.negation.Goals as goal

pub returns-in_err-expect-in-OpenParen : goal.returns-in_err-expect-in-OpenParen
returns-in_err-expect-in-OpenParen c =
    let p = err_from_is_err_and c.from_residual.result c.from_residual.ensures.1 in
    let e = points c.args.self.now c.in-OpenParen.is in
    rw (p.1, p.2) (record { is = several_sign e c.in_err-expect-in-OpenParen.ensures.is })

pub returns-in_err-expect-in-OpenParen-2 : goal.returns-in_err-expect-in-OpenParen-2
returns-in_err-expect-in-OpenParen-2 c =
    let p = err_from_is_err_and c.from_residual-in_err-expect-in-OpenParen-2.result c.from_residual-in_err-expect-in-OpenParen-2.ensures.1 in
    let e = points c.args.self.now c.in-OpenParen.is in
    rw (p.1, p.2) (record { is = several_first e c.in_ok-expect-in-OpenParen.ensures.is c.in_err-expect-in-OpenParen-2.ensures.is })

pub returns-in_err-members-in-OpenParen : goal.returns-in_err-members-in-OpenParen
returns-in_err-members-in-OpenParen c =
    let p = err_from_is_err_and c.from_residual-in_err-members-in-OpenParen.result c.from_residual-in_err-members-in-OpenParen.ensures.1 in
    let e = points c.args.self.now c.in-OpenParen.is in
    rw (p.1, p.2) (record { is = several_fails e c.in_ok-expect-in-OpenParen.ensures.is c.in_ok-expect-in-OpenParen-2.ensures.is c.in_err-members-in-OpenParen.ensures.is })

pub add_negated-requires : goal.add_negated-requires
add_negated-requires c =
    omega (
      arith,
      c.len-first.ensures,
      terms_length c.args.self.now,
      terms_length c.members.new.self,
      passed_length c.in_ok-expect-in-OpenParen.ensures.is.went.passes,
      passed_length c.in_ok-expect-in-OpenParen-2.ensures.is.went.passes,
      passed_length c.in_ok-members-in-OpenParen.ensures.is.went.passes,
    )

pub returns-in_ok-members-in-OpenParen : goal.returns-in_ok-members-in-OpenParen
returns-in_ok-members-in-OpenParen c =
    let e = points c.args.self.now c.in-OpenParen.is in
    record {
      is =
          several_read e c.in_ok-expect-in-OpenParen.ensures.is c.in_ok-expect-in-OpenParen-2.ensures.is c.in_ok-members-in-OpenParen.ensures.is
          (c.len-first.ensures ∙ terms_length c.args.self.now) (ap (λ n. n - c.len-first.result) (terms_length c.members.new.self)) c.add_negated.ensures;
    }

pub returns-in_err-expect-in_default : goal.returns-in_err-expect-in_default
returns-in_err-expect-in_default c =
    let p = err_from_is_err_and c.from_residual-in_err-expect-in_default.result c.from_residual-in_err-expect-in_default.ensures.1 in
    rw (p.1, p.2) (record { is = one_fails (elsewhere c.args.self.now c.in_default.not-OpenParen) c.in_err-expect-in_default.ensures.is })

pub add_negated-requires-in_default : goal.add_negated-requires-in_default
add_negated-requires-in_default c =
    omega (arith, c.len-first.ensures, terms_length c.args.self.now, terms_length c.expect-in_default.new.self, passed_length c.in_ok-expect-in_default.ensures.is.went.passes)

pub returns-in_ok-expect-in_default : goal.returns-in_ok-expect-in_default
returns-in_ok-expect-in_default c =
    record {
      is =
          one_read (elsewhere c.args.self.now c.in_default.not-OpenParen) c.in_ok-expect-in_default.ensures.is
          (c.len-first.ensures ∙ terms_length c.args.self.now) (ap (λ n. n - c.len-first.result) (terms_length c.expect-in_default.new.self)) c.add_negated-in_default.ensures;
    }
