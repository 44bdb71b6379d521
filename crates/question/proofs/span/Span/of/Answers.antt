use Rattle.question.proofs.Bytes.{part_within}
use Rattle.question.proofs.span.Span.of.Goals as goal

pub returns : goal.returns
returns c = part_within c.args.text.now c.args.self.start c.args.self.end c.min-end.result c.min-start.result c.min-end.ensures c.min-start.ensures
