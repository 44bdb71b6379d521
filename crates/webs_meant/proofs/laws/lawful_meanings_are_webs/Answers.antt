use Rattle.webs_meant.proofs.Lookups.{lawful_found}
use Rattle.webs_meant.proofs.laws.lawful_meanings_are_webs.Goals as goal

pub returns : goal.returns
returns g c = lawful_found
