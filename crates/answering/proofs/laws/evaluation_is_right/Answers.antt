use Rattle.answering.proofs.Proved.{evaluation_is_right, evaluation_over_documents}
use Rattle.answering.proofs.laws.evaluation_is_right.Goals as goal

pub returns : goal.returns
returns g c = record { graph = evaluation_is_right; documents = evaluation_over_documents }
