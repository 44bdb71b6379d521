-- What a room holds.
use Rattle.std.specs.Prelude.{ℕ, List}
use Rattle.room.specs.declared.room.Room.{Room}

abbrev pub items : {T : Type 0} {N : ℕ} → Room T N → List T
items r = r.items.items
