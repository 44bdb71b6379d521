-- Terms with their marks, as they are written in a question.
use Rattle.std.specs.Prelude.{ℕ, cond, List, [], ◌∷◌, ◌++◌, length, drop, Some, None, Ok, Err, Option, Result, nat_le}
use Rattle.terms.specs.Terms.{Term}
use Rattle.terms.specs.Marks.{opening, closing}
use Rattle.terms.specs.declared.unwritten.Unwritten.{Unwritten}
use Rattle.terms.specs.declared.unwritten.Unwritten.TheVariants.{NoSuch, TooShort}

abbrev pub spelling : Term → List ℕ
spelling t = opening t.kind ∷ t.bytes ++ closing t.kind ∷ []

-- what spelling a term into a buffer tells: there is no such term, then the buffer is too short
abbrev pub spells : Option Term → List ℕ → Result ℕ Unwritten
spells None buffer = Err NoSuch
spells (Some t) buffer = cond (nat_le (length (spelling t)) (length buffer)) (Ok (length (spelling t))) (Err TooShort)

-- what the buffer holds then: the spelling at its front, and behind it what was there. A refusal leaves it
abbrev pub spelled : Option Term → List ℕ → List ℕ
spelled None buffer = buffer
spelled (Some t) buffer = cond (nat_le (length (spelling t)) (length buffer)) (spelling t ++ drop (length (spelling t)) buffer) buffer
