use Rattle.walks.proofs.Keeping.{possible_is_kept}
use Rattle.walks.proofs.laws.possible_is_no_more.Goals as goal

pub returns : goal.returns
returns g c = possible_is_kept
