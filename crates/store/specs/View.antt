-- The state that a store holds.
use Rattle.room.specs.Items.{items}
use Rattle.lexicon.specs.Held.{held}
use Rattle.store.specs.declared.store.Store.{Store}
use Rattle.store.specs.State.{State}
use Rattle.store.specs.Places.{entries_of}

abbrev pub view : Store → State
view s = record { terms = held s.documents.terms; entries = entries_of (items s.noted); triples = items s.documents.triples }
