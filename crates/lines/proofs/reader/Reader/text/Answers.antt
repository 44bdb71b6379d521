use Rattle.std.proofs.Common.{◌+◌, [], ◌∷◌, get_or, drop, ◌∙◌, arith}
use Rattle.std.proofs.lemmas.Result.{err_from_is_err_and}
use Rattle.lines.specs.Readings.{behind}
use Rattle.lines.proofs.Fronted.{behind_more, behind_all, then_some, then_none}
use Rattle.lines.proofs.reader.Reader.text.Goals as goal

pub loop-b-preserved : goal.loop-b-preserved
loop-b-preserved c =
    let rest = c.loop-b.reader.rest.now in
    let text = c.args.text.now in
    let i = c.loop-b.b-index in (
      c.loop-b.invariant.0 ∙ behind_more text i rest (omega arith) ∙ then_some {o = behind (get_or text i 0 ∷ []) rest} (behind (drop (i + 1) text)) c.in_ok-reader.reader.rest.now c.in_ok-reader.ensures.0,
      c.in_ok-reader.ensures.1 ∙ c.loop-b.invariant.1,
    )

pub returns-in_err-reader : goal.returns-in_err-reader
returns-in_err-reader c =
    let rest = c.loop-b.reader.rest.now in
    let text = c.args.text.now in
    let i = c.loop-b.b-index in
    let p = err_from_is_err_and c.from_residual.result c.from_residual.ensures.1 in
    rw (p.1, p.2) (
      c.loop-b.invariant.0 ∙ behind_more text i rest (omega arith) ∙ then_none {o = behind (get_or text i 0 ∷ []) rest} (behind (drop (i + 1) text)) c.in_err-reader.ensures.0,
      c.in_err-reader.ensures.1 ∙ c.loop-b.invariant.1,
    )

pub returns : goal.returns
returns c = (c.loop-b.invariant.0 ∙ behind_all c.args.text.now c.loop-b.b-index c.loop-b.reader.rest.now (omega arith), c.loop-b.invariant.1)
