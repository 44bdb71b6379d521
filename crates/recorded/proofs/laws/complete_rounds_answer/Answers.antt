use Rattle.recorded.proofs.Ending.{complete_is_answered, complete_rounds_answer}
use Rattle.recorded.proofs.laws.complete_rounds_answer.Goals as goal

pub returns : goal.returns
returns g c = record { answered = complete_is_answered; table = complete_rounds_answer }
