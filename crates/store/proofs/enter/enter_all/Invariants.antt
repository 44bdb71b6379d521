use Rattle.std.proofs.Common.{◌≡◌, take}
use Rattle.lexicon.specs.Held.{held}
use Rattle.lexicon.specs.Numbering.{enter_all}
use Rattle.question.specs.Asking.{asked}
use Rattle.store.proofs.enter.enter_all.Given as goal

abbrev pub invariant-loop-place : goal.invariant-loop-place
invariant-loop-place l = held l.terms ≡ enter_all (held l.initial.terms) (take l.place (asked l.question).terms)
