use Rattle.walks.proofs.Complete.{walk_is_complete}
use Rattle.walks.proofs.laws.walk_is_complete.Goals as goal

pub returns : goal.returns
returns g c = walk_is_complete
