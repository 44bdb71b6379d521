use Rattle.std.proofs.Common.{◌++◌, take}
use Rattle.std.specs.List.{flat_map}
use Rattle.lexicon.specs.Held.{held}
use Rattle.listing.specs.Named.{named}
use Rattle.listing.specs.Text.{heading, line, row_parts}
use Rattle.listing.specs.Written.{Puts}
use Rattle.listing.proofs.writing.put_list.Given as goal

abbrev pub invariant-loop-entry : goal.invariant-loop-entry
invariant-loop-entry l =
    Puts (line (heading (named l.names)) ++ flat_map (λ e. line (row_parts (named l.names) (held l.terms) e)) (take l.entry-index l.rows)) 0 l.fn.into l.behind l.into
