use Rattle.judging.proofs.Shapes.{judges_numbers}
use Rattle.judging.proofs.judged.Judged.sure.Goals as goal

pub returns : goal.returns
returns c = λ numbers. judges_numbers numbers c.args.self.now.question c.args.index c.args.fixed _ c.judge.ensures
