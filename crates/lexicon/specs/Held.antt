-- The terms that a lexicon holds, in the order of their numbers.
use Rattle.std.specs.Prelude.{List}
use Rattle.room.specs.Items.{items}
use Rattle.terms.specs.Terms.{Term}
use Rattle.terms.specs.declared.kind.Kind.{Kind}
use Rattle.lexicon.specs.declared.lexicon.Lexicon.{Lexicon}
use Rattle.lexicon.specs.Parts.{terms_in}

abbrev pub held : Lexicon → List Term
held l = terms_in (items l.text) (items l.kinds) (items l.parts)

abbrev pub kind_of : Term → Kind
kind_of t = t.kind
