use Rattle.weights.proofs.Fairness.{lawful_codes_are_fair}
use Rattle.weights.proofs.laws.lawful_codes_are_fair.Goals as goal

pub returns : goal.returns
returns c = lawful_codes_are_fair
