-- What the first bytes of an input answer.
use Rattle.std.specs.Prelude.{◌≡◌, ℕ, ◌<◌, ◌≤◌, List, length, take, Ok, Err, Result}
use Rattle.grammar.specs.Reading.{Asked}
use Rattle.input.specs.Parting.{Parted}
use Rattle.question.specs.Answers as reading
use Rattle.judging.specs.Judging as judging
use Rattle.partfind.specs.declared.declined.Declined.{Declined}
use Rattle.partfind.specs.declared.declined.Declined.TheVariants.{Text, Verdict, File}
use Rattle.partfind.specs.declared.front.Places.{Places}

-- what the two places hold
pub record Held : Type 0 where
  pub draft : Asked
  pub judged : Asked

abbrev pub held : Places → Held
held p = record { draft = reading.held p.draft; judged = judging.accepted p.judged }

-- The text is read, then judged; then the file is measured, and one over 65,536 bytes is refused.
abbrev pub Answer : List ℕ → List ℕ → Held → Result ℕ Declined → Held → Type 0
Answer text file before (Ok n) after =
    reading.Answer text before.draft (Ok tt) after.draft × judging.Answer after.draft before.judged (Ok n) after.judged × (length file ≤ 65536)
Answer text file before (Err (Text e)) after = reading.Answer text before.draft (Err e) after.draft × (after.judged ≡ before.judged)
Answer text file before (Err (Verdict e)) after = reading.Answer text before.draft (Ok tt) after.draft × judging.Answer after.draft before.judged (Err e) after.judged
Answer text file before (Err (File e)) after =
    reading.Answer text before.draft (Ok tt) after.draft × ((n : ℕ) × judging.Answer after.draft before.judged (Ok n) after.judged) × (65536 < length file)

-- the answer is that to every input with these first bytes: as many as a question, the line `==` and a file may have, and one more
abbrev pub Settles : List ℕ → Held → Result ℕ Declined → Held → Type 0
Settles front before r after =
    (input question pages : List ℕ) → take 67588 input ≡ front → Parted input question pages → Answer question pages before r after
