use Rattle.needs.proofs.Firsts.{first-is, none_is}
use Rattle.needs.proofs.Ordering.{not_itself, goes_on, neither-equal}
use Rattle.needs.proofs.laws.needs_are_lawful.Goals as goal

pub returns : goal.returns
returns c = record { first = first-is; none = none_is; itself = not_itself; through = goes_on; equal = neither-equal }
