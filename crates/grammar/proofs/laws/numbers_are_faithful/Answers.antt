use Rattle.grammar.proofs.Naming.{numbers_are_faithful}
use Rattle.grammar.proofs.laws.numbers_are_faithful.Goals as goal

pub returns : goal.returns
returns c = numbers_are_faithful
