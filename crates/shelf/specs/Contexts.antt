-- What the documents at hand say of a term.
use Rattle.std.specs.Prelude.{ℕ, zero, suc, Bool, true, false, cond, not, ◌&&◌, List, [], ◌∷◌, take, drop, ◌==◌, slice_index_or}
use Rattle.terms.specs.declared.kind.Kind.{Kind}
use Rattle.terms.specs.declared.kind.Kind.TheVariants.{Iri, Literal}
use Rattle.shelf.specs.declared.items.Mark.{Mark}
use Rattle.shelf.specs.declared.items.Mark.TheVariants.{Found, Absent, Broken, Unfit}
use Rattle.shelf.specs.declared.items.Noted.{Noted}
use Rattle.shelf.specs.declared.items.Listed.{Listed}
use Rattle.shelf.specs.declared.shelf.Shelf.{Shelf}

abbrev pub is_iri_kind : Kind → Bool
is_iri_kind Iri = true
is_iri_kind Literal = false

-- term n has the kind at n - 1; 0 and numbers past the last are no terms
abbrev pub iri_among : List Kind → ℕ → Bool
iri_among ks zero = false
iri_among ks (suc n) = is_iri_kind (slice_index_or ks n Literal)

-- how many triples are kept for an entry
abbrev pub size : Mark → ℕ
size (Found n) = n
size Absent = 0
size (Broken code place) = 0
size Unfit = 0

-- what the first entry for a term lists
abbrev pub listed_in : List Noted → List Listed → ℕ → List Listed
listed_in [] ts a = []
listed_in (e ∷ es) ts a = cond (e.iri == a) (take (size e.mark) (drop e.first ts)) (listed_in es ts a)

abbrev pub on_shelf : Shelf → ℕ → Bool
on_shelf s a = iri_among s.kinds.now a

-- only IRIs have documents
abbrev pub listed_on : Shelf → ℕ → List Listed
listed_on s a = cond (on_shelf s a) (listed_in s.noted.now s.triples.now a) []

-- the predicates and objects of the triples with this subject; 0 is no object
abbrev pub said_of : ℕ → List Listed → List (ℕ × ℕ)
said_of a [] = []
said_of a (t ∷ l) = cond (t.subject == a && not (t.object == 0)) ((t.predicate, t.object) ∷ said_of a l) (said_of a l)

-- the context of a term: what its document says of it
abbrev pub context_on : Shelf → ℕ → List (ℕ × ℕ)
context_on s a = said_of a (listed_on s a)
