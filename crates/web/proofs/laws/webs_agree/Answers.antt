use Rattle.web.proofs.Agreeing.{answers_alike}
use Rattle.web.proofs.laws.webs_agree.Goals as goal

pub returns-clause-answers : goal.returns-clause-answers
returns-clause-answers g c = λ v w iri e. answers_alike g.V.Cause.Cause.mark g.W.Cause.Cause.mark (g.V.Web.meaning v iri) (g.W.Web.meaning w iri) e
