use Rattle.recorded.proofs.Asking.{record_answers, evaluation_answers}
use Rattle.recorded.proofs.laws.record_answers.Goals as goal

pub returns : goal.returns
returns g c = record { web = record_answers; evaluation = evaluation_answers }
