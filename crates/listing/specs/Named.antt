-- Names that are held.
use Rattle.std.specs.Prelude.{List, map, take}
use Rattle.room.specs.Items.{items}
use Rattle.grammar.specs.Grammar.{Name}
use Rattle.listing.specs.declared.name.Name.{Name as Held}
use Rattle.listing.specs.declared.names.Names.{Names}

abbrev pub bytes_of : Held → Name
bytes_of n = take n.size n.bytes

abbrev pub named : Names → List Name
named n = map bytes_of (items n.names)

-- The first 16 bytes of each. No name of a text that is a question has more.
abbrev pub shortened : List Name → List Name
shortened names = map (take 16) names
