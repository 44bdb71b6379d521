-- When there are too many: one document that names n objects, for any n. The terms are numbers, and the document is that of 0.
use Rattle.std.specs.Prelude.{ℕ, zero, suc, ◌<◌, cond, ◌↔◌, true, List, [], ◌∷◌, ◌==◌}
use Rattle.grammar.specs.Syntax.{link, inverse, star, sequence, constant, variable, Pattern, line, and, opt}
use Rattle.semantics.specs.Terms.{Terms}
use Rattle.semantics.specs.Graphs.{Graph}
use Rattle.walks.specs.Promises.{whole}
use Rattle.walks.specs.Crowds.{TooMany}

abbrev pub numbers : Terms ℕ
numbers = record { same = λ a b. a == b; is_iri = λ a. true }

-- 0 leads to each of 1 to n, by the predicate 0
abbrev pub facts : ℕ → List (ℕ × ℕ)
facts zero = []
facts (suc n) = (0, suc n) ∷ facts n

abbrev pub up_to : ℕ → List ℕ
up_to zero = 0 ∷ []
up_to (suc n) = suc n ∷ up_to n

abbrev pub naming : ℕ → Graph ℕ
naming n = record { context = λ a. cond (a == 0) (facts n) []; universe = up_to n }

-- all that 0 names
abbrev pub all_named : Pattern ℕ ℕ
all_named = line (constant 0) (link 0) (variable 0)

-- 257 objects are too many, and 256 are not
abbrev pub ObjectsAreCounted : Type 0
ObjectsAreCounted = (n : ℕ) → TooMany numbers (naming n) (whole all_named) ↔ (256 < n)

-- whether a chain leads from 0 to 1
abbrev pub reaches_one : Pattern ℕ ℕ
reaches_one = line (constant 0) (star (link 0)) (constant 1)

-- Only one pair of terms fits both ends. But the star's own closure is counted, 0 itself included: with 256 objects it has 257 terms.
abbrev pub ClosureIsCounted : Type 0
ClosureIsCounted = (n : ℕ) → TooMany numbers (naming n) (whole reaches_one) ↔ (255 < n)

-- 0, then an object, then whatever that leads to by 1, which is nothing
abbrev pub leads_nowhere : Pattern ℕ ℕ
leads_nowhere = line (constant 0) (sequence (link 0) (link 1)) (variable 0)

-- Parts inside a path are counted too: there is no solution, but as many middle terms as objects.
abbrev pub MiddleTermsAreCounted : Type 0
MiddleTermsAreCounted = (n : ℕ) → TooMany numbers (naming n) (whole leads_nowhere) ↔ (256 < n)

-- ?x (^<1>)* <0> . only 0 itself, since nothing leads on by 1
abbrev pub only_zero : Pattern ℕ ℕ
only_zero = line (variable 0) (star (inverse (link 1))) (constant 0)

-- { ?x (^<1>)* <0> . { <0> <0> ?y . OPTIONAL { ?x (^<1>)* <0> . } } }
abbrev pub each_twice : Pattern ℕ ℕ
each_twice = and only_zero (opt (line (constant 0) (link 0) (variable 1)) only_zero)

-- A sub-question's own rows are counted. The group is reached with ?x fixed to 0, and has each object in two rows, one of which gives ?x and the other does
-- not; merged with what is fixed they would be one. So 129 objects are too many.
abbrev pub OwnRowsAreCounted : Type 0
OwnRowsAreCounted = (n : ℕ) → 128 < n → TooMany numbers (naming n) (whole each_twice)
