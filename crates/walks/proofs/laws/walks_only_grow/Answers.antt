use Rattle.walks.proofs.Growth.{walks_only_grow, needs_are_met}
use Rattle.walks.proofs.laws.walks_only_grow.Goals as goal

pub returns : goal.returns
returns g c = record { grow = walks_only_grow; met = needs_are_met }
