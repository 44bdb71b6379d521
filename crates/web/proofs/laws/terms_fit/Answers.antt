use Rattle.web.proofs.Fitting.{cell_short}
use Rattle.web.proofs.laws.terms_fit.Goals as goal

pub returns : goal.returns
returns g c = λ w iri place part t e. cell_short iri (g.W.Web.meaning w iri) place part t (g.met.W.Web.lawful w iri) e
