use Rattle.std.proofs.Common.{sym, ◌∙◌}
use Rattle.room.specs.Items.{items}
use lib.ListN.{length-map}
use Rattle.question.specs.Arena.{name_of}
use Rattle.question.proofs.question.Question.variables.Goals as goal

pub returns : goal.returns
returns c = let q = c.args.self.now in c.len.ensures ∙ sym (length-map (items q.names) (name_of (items q.text)))
