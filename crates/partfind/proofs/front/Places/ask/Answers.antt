use Rattle.partfind.proofs.Settling.{settled}
use Rattle.partfind.proofs.front.Places.ask.Goals as goal

pub returns : goal.returns
returns c = settled _ _ _ _ _ _ c.of-parts.ensures c.settle.ensures
