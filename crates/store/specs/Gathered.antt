-- The first triples of a list have entered.
use Rattle.std.specs.Prelude.{◌≡◌, List, ◌++◌, map}
use Rattle.terms.specs.Terms.{Term}
use Rattle.lexicon.specs.Numbering.{enter_all}
use Rattle.shelf.specs.declared.items.Listed.{Listed}
use Rattle.web.specs.Meaning.{Triple}
use Rattle.store.specs.State.{parts_of, listed}

pub record Gathered (ts : List Term) (ls : List Listed) (xs : List Triple) (us : List Term) (ms : List Listed) : Type 0 where
  pub terms : us ≡ enter_all ts (parts_of xs)
  pub triples : ms ≡ ls ++ map (listed us) xs
