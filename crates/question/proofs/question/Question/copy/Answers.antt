use Rattle.question.proofs.question.Question.copy.Goals as goal

pub returns : goal.returns
returns c = record { asked = simp (c.refill.ensures, c.refill-2.ensures, c.refill-3.ensures, c.refill-4.ensures, c.refill-5.ensures) }
