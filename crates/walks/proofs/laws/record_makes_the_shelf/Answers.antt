use Rattle.walks.proofs.Recorded.{same_shelf, every_shelf_has_its_universe}
use Rattle.walks.proofs.laws.record_makes_the_shelf.Goals as goal

pub returns : goal.returns
returns g c = record { same = same_shelf; universe = every_shelf_has_its_universe }
