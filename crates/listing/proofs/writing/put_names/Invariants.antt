use Rattle.std.proofs.Common.{take}
use Rattle.std.specs.List.{flat_map}
use Rattle.listing.specs.Named.{bytes_of}
use Rattle.listing.specs.Text.{name_text}
use Rattle.listing.specs.Written.{Puts, tabbed}
use Rattle.listing.proofs.writing.put_names.Given as goal

abbrev pub invariant-loop-name : goal.invariant-loop-name
invariant-loop-name l = Puts (flat_map (λ n. tabbed (name_text (bytes_of n))) (take l.name-index l.names)) l.at l.initial.into l.behind l.into
