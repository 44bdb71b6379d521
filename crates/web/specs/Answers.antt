-- What the calls of a Web answer, and what they leave in a buffer, by its meaning.
use Rattle.std.specs.Prelude.{ℕ, cond, List, ◌++◌, length, drop, Some, None, Ok, Err, Option, Result, nat_le}
use Rattle.terms.specs.Terms.{Term}
use Rattle.web.specs.Meaning.{Looked, found, absent, broken}
use Rattle.web.specs.declared.answers.Written.{Written}
use Rattle.terms.specs.declared.unwritten.Unwritten.{Unwritten}
use Rattle.terms.specs.declared.unwritten.Unwritten.TheVariants.{NoSuch, TooShort}

abbrev pub answer : {C : Type 0} → Looked C → Result (Option ℕ) C
answer (found ts) = Ok (Some (length ts))
answer absent = Ok None
answer (broken c) = Err c

abbrev pub written : Term → Written
written t = record { kind = t.kind; length = length t.bytes }

-- what a read of a term tells that is given a buffer: there is no such term, then the buffer is too short
abbrev pub tells : Option Term → List ℕ → Result Written Unwritten
tells None buffer = Err NoSuch
tells (Some t) buffer = cond (nat_le (length t.bytes) (length buffer)) (Ok (written t)) (Err TooShort)

-- what the buffer holds then: the term's bytes at its front, and behind them what was there. A refusal leaves it
abbrev pub leaves : Option Term → List ℕ → List ℕ
leaves None buffer = buffer
leaves (Some t) buffer = cond (nat_le (length t.bytes) (length buffer)) (t.bytes ++ drop (length t.bytes) buffer) buffer
