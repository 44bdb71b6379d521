use Rattle.std.proofs.Common.{Ok, Err, rules, refl, subst, arith}
use Rattle.std.proofs.lemmas.Result.{err_from_is_err_and}
use Rattle.tokens.specs.Lexed.{First}
use Rattle.grammar.proofs.Moves.{differ}
use Rattle.question.proofs.Taking.{alike, told, took, passed, unlike}
use Rattle.question.proofs.reader.Reader.expect.Goals as goal

pub returns-then-ne : goal.returns-then-ne
returns-then-ne c = record { is = unlike c.args.self.now c.args.token (differ _ _ (λ e. search rules)) }

pub admit-requires : goal.admit-requires
admit-requires c =
    let is = alike c.args.self.now.next.token c.args.token (search rules) in
    passed c.args.self.now c.args.token is c.requires (record { depth = refl; full = refl; built = refl }) (omega arith)

pub returns-in_err-number : goal.returns-in_err-number
returns-in_err-number c =
    let is = alike c.args.self.now.next.token c.args.token (search rules) in
    let p = err_from_is_err_and c.from_residual.result c.from_residual.ensures.1 in
    rw (p.1, p.2) (record { is = told c.args.self.now c.args.token is (record { depth = refl; full = refl; built = refl }) c.admit.result c.map_err.result _ c.admit.ensures c.map_err.ensures.cases (λ why f made. search rules) (Err c.in_err-number.field-0.0) c.in_err-number.was })

pub returns : goal.returns
returns c =
    let is = alike c.args.self.now.next.token c.args.token (search rules) in
    let ok = told c.args.self.now c.args.token is (record { depth = refl; full = refl; built = refl }) c.admit.result c.map_err.result _ c.admit.ensures c.map_err.ensures.cases (λ why f made. search rules) (Ok c.in_ok-number.number) c.in_ok-number.was in
    took c.args.self.now c.args.token is c.requires (record { depth = refl; full = refl; built = refl }) ok
    (subst (λ u. First u c.args.self.now.next.end c.next-self.result) c.as_slice.ensures c.next-self.ensures)
