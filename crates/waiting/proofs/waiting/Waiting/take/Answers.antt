use Rattle.std.proofs.Common.{◌∷◌, sym, ap, ◌∙◌}
use Rattle.room.specs.Items.{items}
use Rattle.waiting.specs.Waits.{told, waits}
use Rattle.waiting.proofs.Told.{first_told, one_less}
use Rattle.waiting.proofs.waiting.Waiting.take.Goals as goal

pub returns : goal.returns
returns c =
    let w = c.args.self.now in
    first_told c.entries.result.now c.in_ok-first.first (waits w) c.entries.ensures (sym c.first.ensures.value ∙ sym c.copied.ensures ∙ c.in_ok-first.ensures.ok_part)
    ∙ ap (λ L. told c.in_ok-first.first ∷ L) (one_less told w.taken (items w.entries))
