use Rattle.recorded.proofs.Asking.{numbers_ask_the_same, evaluation_counts}
use Rattle.recorded.proofs.laws.numbers_ask_the_same.Goals as goal

pub returns : goal.returns
returns c = record { questions = numbers_ask_the_same; counts = evaluation_counts }
