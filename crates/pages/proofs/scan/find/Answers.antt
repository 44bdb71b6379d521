use Rattle.std.proofs.Common.{rules}
use Rattle.pages.proofs.Walking.{find_first}
use Rattle.pages.proofs.scan.find.Goals as goal

pub returns : goal.returns
returns c = rw c.then_some.ensures (find_first _ _ c.args.address.now (λ l t h k. search rules) c.args.from c.any.result c.any.new.self c.any.ensures.ran)
