use Rattle.webs_meant.proofs.Lookups.{lawful_found}
use Rattle.webs_meant.proofs.laws.every_web_is_meant.Goals as goal

pub returns : goal.returns
returns g c = λ w. lawful_found (g.W.Web.meaning w) (g.met.W.Web.lawful w)
