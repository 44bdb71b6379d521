-- What judging a question answers.
use Rattle.std.specs.Prelude.{◌≡◌, ℕ, zero, suc, ◌+◌, cond, Ok, Err, Result}
use Rattle.grammar.specs.Bounded.{Vars, none, sure, Bounded}
use Rattle.grammar.specs.Numbered.{asks}
use Rattle.grammar.specs.Reading.{Asked}
use Rattle.question.specs.Asking.{asked}
use Rattle.judging.specs.declared.refusal.NotBounded.{NotBounded}
use Rattle.judging.specs.declared.judged.Judged.{Judged}

-- how many of the first n variables are in a set
abbrev pub how_many : Vars → ℕ → ℕ
how_many X zero = 0
how_many X (suc n) = cond (X 0) 1 0 + how_many (λ v. X (suc v)) n

-- how many of a question's variables, of which there are eight at most, are sure
abbrev pub sure_count : Asked → ℕ
sure_count q = how_many (sure (asks q)) 8

-- the question that a judged place holds
abbrev pub accepted : Judged → Asked
accepted j = asked j.question

-- Ok where the question is bounded, with the number of its sure variables, and then the judged place holds it; else it holds what it held.
abbrev pub Answer : Asked → Asked → Result ℕ NotBounded → Asked → Type 0
Answer q before (Ok n) after = Bounded (asks q) none × (n ≡ sure_count q) × (after ≡ q)
Answer q before (Err e) after = (Bounded (asks q) none → ⊥) × (after ≡ before)
