-- How the terms of a question enter, one after the other.
use Rattle.std.specs.Prelude.{◌≡◌, Bool, true, false, List, ◌++◌}
use Rattle.terms.specs.Terms.{Term}
use Rattle.lexicon.specs.Numbering.{enter_all, within}

-- all of them entered, or one did not fit and those before it may be there
abbrev pub Entering : List Term → List Term → Bool → List Term → Type 0
Entering ts xs true us = (within (enter_all ts xs) ≡ true) × (us ≡ enter_all ts xs)
Entering ts xs false us = (within (enter_all ts xs) ≡ false) × ((more : List Term) × (us ≡ ts ++ more))
