use Rattle.std.proofs.Common.{is_some, None, Option, sym, refl, subst, arith}
use Rattle.question.specs.Asking.{asked}
use Rattle.question.specs.Answers.{term_told}
use Rattle.lexicon.specs.Held.{held}
use Rattle.lexicon.proofs.Holding.{held_within}
use Rattle.store.specs.Entering.{Entering}
use Rattle.store.proofs.Asking.{stands_told, entering_stops, entering_goes, entering_ends}
use Rattle.store.proofs.enter.enter_all.Goals as goal

pub returns-in_err-enter : goal.returns-in_err-enter
returns-in_err-enter c =
    let ts = held c.args.terms.now in
    let xs = (asked c.args.question.now).terms in
    let x = term_told c.in_ok-kind.kind c.in_ok-kind.bytes.now in
    let s = stands_told xs c.loop-place.place x c.in_ok-kind.ensures in
    subst (λ (r : Option (Unit {0})). Entering ts xs (is_some r) (held c.enter.new.self)) (sym c.from_residual-in_err-enter.ensures)
    (entering_stops ts xs c.loop-place.place x _ _ None s c.loop-place.invariant refl c.in_err-enter.ensures.answer c.in_err-enter.ensures.after)

pub loop-place-preserved : goal.loop-place-preserved
loop-place-preserved c =
    let xs = (asked c.args.question.now).terms in
    let x = term_told c.in_ok-kind.kind c.in_ok-kind.bytes.now in
    let s = stands_told xs c.loop-place.place x c.in_ok-kind.ensures in
    entering_goes (held c.args.terms.now) xs c.loop-place.place x _ _ _ s c.loop-place.invariant refl c.in_ok-enter.ensures.answer c.in_ok-enter.ensures.after

pub returns : goal.returns
returns c = entering_ends (held c.args.terms.now) (asked c.args.question.now).terms c.loop-place.place _ (omega (arith, c.terms-place-end.ensures, c.loop-place-test.false)) c.loop-place.invariant (held_within c.loop-place.terms)
