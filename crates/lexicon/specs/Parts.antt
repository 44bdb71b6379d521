-- How kinds, parts and a text hold terms.
use Rattle.std.specs.Prelude.{ℕ, ◌+◌, List, [], ◌∷◌, take, drop, slice_index_or}
use Rattle.terms.specs.Terms.{Term}
use Rattle.terms.specs.declared.kind.Kind.{Kind}
use Rattle.terms.specs.declared.kind.Kind.TheVariants.{Literal}
use Rattle.lexicon.specs.declared.part.Part.{Part}
use Rattle.lexicon.specs.Numbering.{term}

abbrev pub no_part : Part
no_part = record { start = 0; size = 0 }

abbrev pub part_at : List Part → ℕ → Part
part_at ps k = slice_index_or ps k no_part

abbrev pub sizes : List Part → ℕ
sizes [] = 0
sizes (p ∷ ps) = p.size + sizes ps

abbrev pub bytes_in : List ℕ → Part → List ℕ
bytes_in text p = take p.size (drop p.start text)

abbrev pub terms_in : List ℕ → List Kind → List Part → List Term
terms_in text [] ps = []
terms_in text (k ∷ ks) [] = []
terms_in text (k ∷ ks) (p ∷ ps) = term k (bytes_in text p) ∷ terms_in text ks ps

abbrev pub no_term : Term
no_term = term Literal []
