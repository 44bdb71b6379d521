-- What a record lists, by its first entry for a term.
use Rattle.std.proofs.Common.{◌≡◌, ℕ, Bool, true, false, cond, ◌==◌, List, [], ◌∷◌, take, drop, find, Some, None, Option, refl}
use Rattle.shelf.specs.declared.items.Noted.{Noted}
use Rattle.shelf.specs.declared.items.Listed.{Listed}
use Rattle.shelf.specs.Contexts.{listed_in, size}

abbrev pub listed_of : List Listed → Option Noted → List Listed
listed_of ts None = []
listed_of ts (Some e) = take (size e.mark) (drop e.first ts)

pub listed_first : (es : List Noted) (ts : List Listed) (a : ℕ) → listed_of ts (find (λ e. e.iri == a) es) ≡ listed_in es ts a
listed_first [] ts a = refl
listed_first (e ∷ es) ts a = go (e.iri == a) (listed_first es ts a)
  where
    go : (b : Bool) → listed_of ts (find (λ d. d.iri == a) es) ≡ listed_in es ts a → listed_of ts (cond b (Some e) (find (λ d. d.iri == a) es)) ≡ cond b (listed_of ts (Some e)) (listed_in es ts a)
    go true h = refl
    go false h = h
