-- What the questions over the file of four pages show. Every solution is listed, with its weight.
use Rattle.std.specs.Prelude.{◌≡◌, ℕ, true, false, List, [], ◌∷◌, Some}
use Rattle.weights.specs.Kinds.{Kind}
use Rattle.weights.specs.Codes.{counting, presence}
use Rattle.terms.specs.Terms.{Term}
use Rattle.grammar.specs.Judged.{judged}
use Rattle.semantics.specs.Rows.{Row}
use Rattle.semantics.specs.Bags.{Bag}
use Rattle.semantics.specs.Terms.{In}
use Rattle.semantics.specs.Meaning.{solutions}
use Rattle.semantics.specs.Webs.{by_bytes, Universe, Found}
use Rattle.walks.specs.Needs.{needs}
use Rattle.walks.specs.Promises.{whole}
use Rattle.samples.specs.File.{m1, m2, m3, m4, ten, found, universe, graph, Asked, value_of_substitutes, all_substitutes, who_names_it, whom_it_names, any_other_fact, nothing, value_if_given, same_value_as_another, either_of_two, from_literal}

abbrev pub solved : Kind → Asked → Bag Term ℕ
solved k p = solutions by_bytes graph k p

-- x alone, and x with v
abbrev pub gives : Term → Row Term
gives x = Some x ∷ []

abbrev pub gives_both : Term → Term → Row Term
gives_both x v = Some x ∷ Some v ∷ []

abbrev pub TwoWaysCountTwo : Type 0
TwoWaysCountTwo = solved counting value_of_substitutes ≡ (gives ten, 2) ∷ []

abbrev pub StarBeginsWhereItStands : Type 0
StarBeginsWhereItStands = solved counting all_substitutes ≡ (gives m1, 1) ∷ (gives m2, 1) ∷ (gives m3, 1) ∷ []

-- no page need say who names m:1, so this cannot be walked
abbrev pub BackwardsIsNotBounded : Type 0
BackwardsIsNotBounded = judged who_names_it 0 ≡ false

abbrev pub InverseGoesBackwards : Type 0
InverseGoesBackwards = solved counting whom_it_names ≡ (gives m2, 1) ∷ (gives m3, 1) ∷ []

-- "22u" stands on the page of m:3, with m:2 for its subject
abbrev pub AContextHasOneSubject : Type 0
AContextHasOneSubject = solved counting any_other_fact ≡ (gives ten, 1) ∷ []

abbrev pub EmptyHasOneSolution : Type 0
EmptyHasOneSolution = solved counting nothing ≡ ([], 1) ∷ []

-- the rows without a value are possible, and no solutions: each has a compatible right one
abbrev pub OptionGivesTheValue : Type 0
OptionGivesTheValue = solved counting value_if_given ≡ (gives_both m2 ten, 1) ∷ (gives_both m3 ten, 1) ∷ []

-- the value of m:4 is not handed into the optional part
abbrev pub NothingIsHandedIntoAnOption : Type 0
NothingIsHandedIntoAnOption = solved counting same_value_as_another ≡ []

abbrev pub AlternativesAdd : Type 0
AlternativesAdd = solved counting either_of_two ≡ (gives m2, 2) ∷ (gives m3, 2) ∷ []

abbrev pub LiteralReachesItself : Type 0
LiteralReachesItself = solved counting from_literal ≡ (gives ten, 1) ∷ []

-- the same solutions, each of weight one, for every question that can be walked
abbrev pub PresenceCountsNoWays : Type 0
PresenceCountsNoWays =
    (solved presence value_of_substitutes ≡ (gives ten, 1) ∷ [])
    × (solved presence all_substitutes ≡ (gives m1, 1) ∷ (gives m2, 1) ∷ (gives m3, 1) ∷ [])
    × (solved presence whom_it_names ≡ (gives m2, 1) ∷ (gives m3, 1) ∷ [])
    × (solved presence any_other_fact ≡ (gives ten, 1) ∷ [])
    × (solved presence nothing ≡ ([], 1) ∷ [])
    × (solved presence value_if_given ≡ (gives_both m2 ten, 1) ∷ (gives_both m3 ten, 1) ∷ [])
    × (solved presence same_value_as_another ≡ [])
    × (solved presence either_of_two ≡ (gives m2, 1) ∷ (gives m3, 1) ∷ [])
    × (solved presence from_literal ≡ (gives ten, 1) ∷ [])

-- all but one can be walked
abbrev pub walked : List Asked
walked = value_of_substitutes ∷ all_substitutes ∷ whom_it_names ∷ any_other_fact ∷ nothing ∷ value_if_given ∷ same_value_as_another ∷ either_of_two ∷ from_literal ∷ []

abbrev pub TheOthersAreBounded : Type 0
TheOthersAreBounded = (q : Asked) → In q walked → judged q 0 ≡ true

-- the file is a Web, and the terms listed are its universe for each of these questions
abbrev pub FileIsAWeb : Type 0
FileIsAWeb = Found found × ((q : Asked) → In q walked → Universe by_bytes found q universe)

-- which pages a walk needs. A page may be needed on several ways; a literal has none.
abbrev pub needed : Asked → List Term
needed p = needs by_bytes graph (whole p)

abbrev pub PagesThatAreNeeded : Type 0
PagesThatAreNeeded =
    (needed value_of_substitutes ≡ m1 ∷ m2 ∷ m3 ∷ [])
    × (needed all_substitutes ≡ m1 ∷ m2 ∷ m3 ∷ [])
    × (needed whom_it_names ≡ m1 ∷ [])
    × (needed any_other_fact ≡ m3 ∷ [])
    × (needed nothing ≡ [])
    × (needed value_if_given ≡ m1 ∷ m2 ∷ m3 ∷ [])
    × (needed same_value_as_another ≡ m1 ∷ m2 ∷ m3 ∷ m4 ∷ m4 ∷ m4 ∷ m4 ∷ [])
    × (needed either_of_two ≡ m1 ∷ m1 ∷ [])
    × (needed from_literal ≡ [])
