use Rattle.recorded.proofs.Arenas.{evaluated_questions_answer}
use Rattle.recorded.proofs.laws.evaluated_questions_answer.Goals as goal

pub returns : goal.returns
returns g c = evaluated_questions_answer
