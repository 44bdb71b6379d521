use Rattle.std.proofs.Common.{refl}
use Rattle.std.proofs.lemmas.Result.{err_from_is_err_and}
use Rattle.lines.proofs.Marks.{term_read, term_unfit, term_unclosed}
use Rattle.lines.proofs.reader.Reader.term.Goals as goal

pub returns-then-not-fits : goal.returns-then-not-fits
returns-then-not-fits c = (
  term_unfit c.args.kind c.args.self.rest.now c.in_ok-inner.inner.rest.now c.term_run-length.result c.opening.result c.opening.ensures c.in_ok-inner.ensures.0
      c.term_run-length.ensures c.if-not-fits.ensures,
  refl,
)

pub returns-in_err-behind : goal.returns-in_err-behind
returns-in_err-behind c =
    let p = err_from_is_err_and c.from_residual-in_err-behind.result c.from_residual-in_err-behind.ensures.1 in
    rw (p.1, p.2) (
      term_unclosed c.args.kind c.args.self.rest.now c.in_ok-inner.inner.rest.now c.split_at.result.1.now c.term_run-length.result c.opening.result c.closing.result
          c.opening.ensures c.closing.ensures c.in_ok-inner.ensures.0 c.term_run-length.ensures
          c.if-not-fits.ensures c.split_at.ensures.back c.in_err-behind.ensures.0,
      c.in_err-behind.ensures.1,
    )

pub returns : goal.returns
returns c = (
  term_read c.args.kind c.args.self.rest.now c.in_ok-inner.inner.rest.now c.split_at.result.0.now c.split_at.result.1.now c.in_ok-behind.behind.rest.now
      c.term_run-length.result c.opening.result c.closing.result c.opening.ensures c.closing.ensures c.in_ok-inner.ensures.0
      c.term_run-length.ensures
      c.if-not-fits.ensures c.split_at.ensures.front c.split_at.ensures.back c.in_ok-behind.ensures.0,
  c.in_ok-behind.ensures.1,
)
