use Rattle.recorded.proofs.Kept.{telling_is_lawful}
use Rattle.recorded.proofs.laws.telling_is_lawful.Goals as goal

pub returns : goal.returns
returns g c = telling_is_lawful
