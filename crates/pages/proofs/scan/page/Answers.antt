use Rattle.std.proofs.Common.{Some, None, sym, ap, ◌∙◌, subst}
use Rattle.std.proofs.lemmas.Result.{err_from_is_err_and}
use Rattle.pages.specs.declared.cause.Fault.TheVariants.{Unreadable}
use Rattle.pages.specs.Pages.{cause}
use Rattle.lines.specs.declared.cursor.Lines.{Lines}
use Rattle.lines.specs.Steps.{said_of}
use Rattle.pages.specs.Steps.{Passed}
use Rattle.pages.proofs.Walking.{pass_start, pass_nothing, pass_states, pass_other, pass_again, pass_bad, pass_end}
use Rattle.pages.proofs.scan.page.Goals as goal
use Rattle.pages.proofs.scan.page.Goals.{then-count-place, else-count-place, in-Some+in_ok-said+in-Opens+else-eq, in_default}

pub loop-line-init : goal.loop-line-init
loop-line-init c = pass_start

pub returns-in_err-said : goal.returns-in_err-said
returns-in_err-said c =
    let p = err_from_is_err_and c.from_residual.result c.from_residual.ensures.1 in
    rw (p.1, p.2) (pass_bad c.loop-line.invariant c.in-Some.ensures.steps c.in_err-said.ensures.0 ∙ ap (λ n. Some (cause Unreadable n)) (sym c.in_err-said.ensures.1))

pub loop-line-preserved-in-Nothing : goal.loop-line-preserved-in-Nothing
loop-line-preserved-in-Nothing c = pass_nothing c.loop-line.invariant c.in-Some.ensures.steps (c.in_ok-said.ensures ∙ ap said_of c.in-Nothing.is)

pub loop-line-preserved : goal.loop-line-preserved
loop-line-preserved c =
    pass_states c.loop-line.invariant c.in-Some.ensures.steps (c.in_ok-said.ensures ∙ ap said_of c.in-States.is)
    (λ e. elim c.if-count-place.branch [ then-count-place w ↦ w.stated-is | else-count-place w ↦ absurd (w.if-count-place.false e) ])
    (λ f. elim c.if-count-place.branch [ then-count-place w ↦ absurd (f w.if-count-place.true) | else-count-place w ↦ w.stated-is ])

pub returns-then-eq : goal.returns-then-eq
returns-then-eq c = pass_again c.loop-line.invariant c.in-Some.ensures.steps (c.in_ok-said.ensures ∙ ap said_of c.in-Opens.is) (sym c.if-eq.ensures)

pub returns : goal.returns
returns c =
    elim c.match-next.branch [
      | in-Some+in_ok-said+in-Opens+else-eq w ↦ pass_other c.loop-line.invariant w.in-Some.ensures.steps (w.in_ok-said.ensures ∙ ap said_of w.in-Opens.is) (sym w.if-eq.ensures)
      | in_default w ↦
          subst (λ (l : Lines). Passed c.args.address.now c.args.from.passed c.args.from.rest.now c.args.place c.loop-line.count c.loop-line.stated None l.passed l.rest.now) (sym w.in_default.ensures.steps.1)
          (pass_end c.loop-line.invariant w.in_default.ensures.steps.0)
    ]
