use Rattle.walks.proofs.Recorded.{shelves_grow, looked_up_stays_needed}
use Rattle.walks.proofs.laws.lookups_stay_needed.Goals as goal

pub returns : goal.returns
returns g c = record { grows = shelves_grow; needed = looked_up_stays_needed }
