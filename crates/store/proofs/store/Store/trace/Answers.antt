use Rattle.std.proofs.Common.{length, sym, ap, ◌∙◌, arith, ltb-false}
use Rattle.std.proofs.lemmas.Result.{err_from_is_err_and}
use Rattle.std.proofs.lemmas.Grind.{common_steps}
use Rattle.std.proofs.lemmas.Option.{gets}
use Rattle.room.specs.Items.{items}
use Rattle.store.proofs.Recording.{traced_at, traced_past}
use Rattle.store.proofs.store.Store.trace.Goals as goal

pub returns-in_err-noted : goal.returns-in_err-noted
returns-in_err-noted c =
    let e = err_from_is_err_and c.from_residual.result c.from_residual.ensures.1 in
    let past = ltb-false c.args.place _ (sym (c.in_err-noted.ensures.variant ∙ c.get.ensures.lookup.0)) in
    e.1 ∙ traced_past (items c.args.self.now.noted) c.args.place (omega (arith, past, ap length c.as_slice.ensures))

pub returns : goal.returns
returns c = grind (arith, common_steps, gets, traced_at)
