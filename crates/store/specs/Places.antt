-- Where the lists of a record stand.
use Rattle.std.specs.Prelude.{ℕ, ◌+◌, List, [], ◌∷◌, slice_index_or}
use Rattle.shelf.specs.declared.items.Noted.{Noted}
use Rattle.shelf.specs.declared.items.Mark.TheVariants.{Absent}
use Rattle.shelf.specs.Contexts.{size}
use Rattle.store.specs.declared.record.Entry.{Entry}

abbrev pub counts : List Noted → ℕ
counts [] = 0
counts (n ∷ ns) = size n.mark + counts ns

abbrev pub no_noted : Noted
no_noted = record { iri = 0; mark = Absent; first = 0 }

abbrev pub noted_at : List Noted → ℕ → Noted
noted_at ns k = slice_index_or ns k no_noted

abbrev pub entries_of : List Noted → List Entry
entries_of [] = []
entries_of (n ∷ ns) = record { iri = n.iri; mark = n.mark } ∷ entries_of ns
