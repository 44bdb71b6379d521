use Rattle.std.proofs.Common.{◌≡◌, length, take}
use Rattle.question.specs.Asking.{asked}
use Rattle.listing.specs.Named.{named, shortened}
use Rattle.listing.proofs.names.Names.take.Given as goal

abbrev pub invariant-loop-number : goal.invariant-loop-number
invariant-loop-number l = (named l.self ≡ shortened (take l.number (asked l.question).names)) × (length (named l.self) ≡ l.number)
