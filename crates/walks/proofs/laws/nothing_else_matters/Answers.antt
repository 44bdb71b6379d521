use Rattle.walks.proofs.Beside.{nothing_else_matters}
use Rattle.walks.proofs.laws.nothing_else_matters.Goals as goal

pub returns : goal.returns
returns g c = nothing_else_matters
