use Rattle.walks.proofs.Translating.{names_are_free}
use Rattle.walks.proofs.laws.names_are_free.Goals as goal

pub returns : goal.returns
returns g c = names_are_free
