use Rattle.std.proofs.Common.{take}
use Rattle.std.specs.List.{flat_map}
use Rattle.lexicon.specs.Held.{held}
use Rattle.listing.specs.Text.{place_text}
use Rattle.listing.specs.Written.{Puts, tabbed}
use Rattle.listing.proofs.writing.put_places.Given as goal

abbrev pub invariant-loop-number : goal.invariant-loop-number
invariant-loop-number l = Puts (flat_map (λ n. tabbed (place_text (held l.fn.terms) n)) (take l.number-index l.places)) l.at l.initial.into l.behind l.into
