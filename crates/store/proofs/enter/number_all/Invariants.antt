use Rattle.std.proofs.Common.{◌≡◌, map, length, take}
use Rattle.room.specs.Items.{items}
use Rattle.lexicon.specs.Held.{held}
use Rattle.lexicon.specs.Numbering.{number_of}
use Rattle.question.specs.Asking.{asked}
use Rattle.store.proofs.enter.number_all.Given as goal

abbrev pub invariant-loop-place : goal.invariant-loop-place
invariant-loop-place l = (items l.numbers ≡ map (number_of (held l.terms)) (take l.place (asked l.question).terms)) × (length (items l.numbers) ≡ l.place)
