use Rattle.webs_meant.proofs.Lookups.{agreed_found}
use Rattle.webs_meant.proofs.laws.agreeing_webs_mean_the_same.Goals as goal

pub returns : goal.returns
returns g c = λ v w t h. agreed_found _ _ (g.V.Web.meaning v) (g.W.Web.meaning w) t h
