use Rattle.input.proofs.Lines.{one_parting}
use Rattle.input.proofs.Fronts.{front_settles, front_settles_pages}
use Rattle.input.proofs.parting_is_exact.Goals as goal

pub returns : goal.returns
returns c = record { once = one_parting; front = front_settles; pages = front_settles_pages }
