use Rattle.std.proofs.Common.{◌∙◌}
use Rattle.question.specs.Parts.{env_of}
use Rattle.judging.specs.Masked.{by_number}
use Rattle.judging.proofs.Shapes.{same_walk}
use Rattle.judging.proofs.judged.Judged.walkable.Goals as goal

pub returns : goal.returns
returns c = λ numbers. let q = c.args.self.now.question in c.walkable.ensures ∙ same_walk (env_of q).term (by_number numbers q).term q c.args.index c.args.left c.args.right
