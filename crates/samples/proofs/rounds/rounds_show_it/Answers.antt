use Rattle.samples.proofs.Turns.{one_course, four_documents_decide}
use Rattle.samples.proofs.rounds.rounds_show_it.Goals as goal

pub returns-clause-course : goal.returns-clause-course
returns-clause-course c = one_course

pub returns-clause-decide : goal.returns-clause-decide
returns-clause-decide c = four_documents_decide
