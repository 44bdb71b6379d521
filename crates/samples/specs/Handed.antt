-- What a plan hands on from part to part, over the Web of the static plan: a:1 has the substitute x:1, which has the value y:1, which leads to z:1; and b:1
-- names y:2.
use Rattle.std.specs.Prelude.{◌≡◌, true, [], ◌∷◌}
use Rattle.grammar.specs.Syntax.{link, inverse, star, sequence, constant, variable, line, and, union, opt}
use Rattle.grammar.specs.Judged.{judged}
use Rattle.semantics.specs.Terms.{In}
use Rattle.samples.specs.File.{Asked}
use Rattle.samples.specs.Static.{a1, x1, b1, y1, alt, val, names, leads_to, graph}
use Rattle.samples.specs.Walked.{NeedsJust}

-- { <b:1> <p:names> ?y . { <a:1> <p:alt> ?x . OPTIONAL { ?x <p:val> ?y . ?y <p:leads> ?z . } } }
abbrev pub option_of_its_own : Asked
option_of_its_own =
    and (line (constant b1) (link names) (variable 0))
    (opt (line (constant a1) (link alt) (variable 1))
    (and (line (variable 1) (link val) (variable 0)) (line (variable 0) (link leads_to) (variable 2))))

-- { <b:1> <p:names> ?y . { <a:1> <p:alt> ?x . OPTIONAL { ?y <p:leads> ?z . ?x <p:val> ?y . } } }
abbrev pub option_turned : Asked
option_turned =
    and (line (constant b1) (link names) (variable 0))
    (opt (line (constant a1) (link alt) (variable 1))
    (and (line (variable 0) (link leads_to) (variable 2)) (line (variable 1) (link val) (variable 0))))

-- { <a:1> <p:alt> ?x . { ?x <p:val> ?y . OPTIONAL { ?y <p:leads> ?z . } } }
abbrev pub option_behind : Asked
option_behind =
    and (line (constant a1) (link alt) (variable 0))
    (opt (line (variable 0) (link val) (variable 1)) (line (variable 1) (link leads_to) (variable 2)))

-- { <b:1> <p:names> ?y . { <a:1> <p:alt> ?x . ?x <p:val> ?y . OPTIONAL { ?y <p:leads> ?z . } } }
abbrev pub option_unfit : Asked
option_unfit =
    and (line (constant b1) (link names) (variable 0))
    (opt (and (line (constant a1) (link alt) (variable 1)) (line (variable 1) (link val) (variable 0))) (line (variable 0) (link leads_to) (variable 2)))

-- { <a:1> <p:alt> ?x . { <b:1> <p:names> ?y . ?x <p:val> ?v . } }
abbrev pub group_behind : Asked
group_behind =
    and (line (constant a1) (link alt) (variable 0))
    (and (line (constant b1) (link names) (variable 1)) (line (variable 0) (link val) (variable 2)))

-- { { <a:1> <p:alt> ?x . } UNION { <b:1> <p:names> ?x . } }
abbrev pub either : Asked
either = union (line (constant a1) (link alt) (variable 0)) (line (constant b1) (link names) (variable 0))

-- { ?x ^<p:val>/^<p:alt> <a:1> . }
abbrev pub values_backwards : Asked
values_backwards = line (variable 0) (sequence (inverse (link val)) (inverse (link alt))) (constant a1)

-- { <x:1> (^<p:alt>)* <a:1> . }
abbrev pub star_backwards : Asked
star_backwards = line (constant x1) (star (inverse (link alt))) (constant a1)

abbrev pub AllAreBounded : Type 0
AllAreBounded =
    (q : Asked) → In q (option_of_its_own ∷ option_turned ∷ option_behind ∷ option_unfit ∷ group_behind ∷ either ∷ values_backwards ∷ star_backwards ∷ [])
    → judged q 0 ≡ true

-- ---- an OPTIONAL

-- Its right side is walked from x:1 alone. With y:2 handed in, the value y:1 would not be followed, and that it leads on not be known.
abbrev pub OptionIsWalkedAlone : Type 0
OptionIsWalkedAlone = NeedsJust graph option_of_its_own (b1 ∷ a1 ∷ x1 ∷ y1 ∷ [])

-- So there ?y is not fixed either, and the right side's second line goes first.
abbrev pub OptionIsJudgedAlone : Type 0
OptionIsJudgedAlone = NeedsJust graph option_turned (b1 ∷ a1 ∷ x1 ∷ y1 ∷ [])

-- Its left side gets what is fixed.
abbrev pub LeftSideGetsWhatIsFixed : Type 0
LeftSideGetsWhatIsFixed = NeedsJust graph option_behind (a1 ∷ x1 ∷ y1 ∷ [])

-- The left row of x:1 and y:1 does not fit the fixed y:2, so the right side is not reached, and y:1 not needed.
abbrev pub UnfitRowsLeadNowhere : Type 0
UnfitRowsLeadNowhere = NeedsJust graph option_unfit (b1 ∷ a1 ∷ x1 ∷ [])

-- ---- AND, UNION and paths

-- The last line gets ?x from the first, over the line between.
abbrev pub AllIsHandedOn : Type 0
AllIsHandedOn = NeedsJust graph group_behind (a1 ∷ b1 ∷ x1 ∷ [])

abbrev pub BothSidesAreWalked : Type 0
BothSidesAreWalked = NeedsJust graph either (a1 ∷ b1 ∷ [])

-- The left path could not be walked from ?x, so the right one goes first.
abbrev pub SequenceBeginsOnTheRight : Type 0
SequenceBeginsOnTheRight = NeedsJust graph values_backwards (a1 ∷ x1 ∷ [])

-- The path could not be walked from x:1, although it is known. So the star is walked from a:1.
abbrev pub StarBeginsOnTheRight : Type 0
StarBeginsOnTheRight = NeedsJust graph star_backwards (a1 ∷ x1 ∷ [])
