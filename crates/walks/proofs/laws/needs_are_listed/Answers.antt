use Rattle.walks.proofs.Listed.{needs_are_listed}
use Rattle.walks.proofs.laws.needs_are_listed.Goals as goal

pub returns : goal.returns
returns g c = needs_are_listed
