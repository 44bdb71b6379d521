use Rattle.walks.proofs.Namesakes.{crowds_are_translated}
use Rattle.walks.proofs.laws.crowds_are_translated.Goals as goal

pub returns : goal.returns
returns g c = crowds_are_translated
