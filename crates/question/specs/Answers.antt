-- What a draft holds, and what reading a text answers.
use Rattle.std.specs.Prelude.{◌≡◌, ℕ, ◌≤◌, false, List, length, Some, None, Ok, Err, Option, Result}
use Rattle.terms.specs.declared.kind.Kind.{Kind}
use Rattle.terms.specs.Terms.{Term}
use Rattle.tokens.specs.Lexed.{tokens}
use Rattle.grammar.specs.declared.refusal.Refusal.{Refusal}
use Rattle.grammar.specs.Limits.{nothing}
use Rattle.grammar.specs.Reading.{Asked, Refused}
use Rattle.grammar.specs.Reading as reading
use Rattle.question.specs.declared.reader.Reader.{Reader}
use Rattle.question.specs.declared.draft.Draft.{Draft}
use Rattle.question.specs.Asking.{asked}
use Rattle.question.specs.Views.{view, Stands}

-- the question that a draft holds
abbrev pub held : Draft → Asked
held d = asked d.question

-- the reader has all of a text before it
pub record Fresh (text : List ℕ) (r : Reader) : Type 0 where
  pub spots : (view r).spots ≡ tokens text
  pub seen : (view r).seen ≡ nothing
  pub count : (view r).count ≡ 0
  pub full : (view r).full ≡ false

-- What reading a text answers: Ok where it is a question, which is then asked; else how it is refused, and what was asked stays.
abbrev pub Answer : List ℕ → Asked → Result (Unit {0}) Refusal → Asked → Type 0
Answer text before (Ok u) after = reading.Question text after
Answer text before (Err r) after = Refused text r × (after ≡ before)

-- the reader's verdict on a text of at most 2,048 bytes
abbrev pub Verdict : List ℕ → Result (Unit {0}) Refusal → Asked → Type 0
Verdict text (Ok u) after = reading.Question text after
Verdict text (Err r) after = Refused text r

-- ---- what a question tells of its parts

abbrev pub term_told : Kind → List ℕ → Term
term_told k x = record { kind = k; bytes = x }

-- what stands at an index of a list, or that nothing does
abbrev pub Told : {X Y : Type 0} → (X → Y → Type 0) → List Y → ℕ → Option X → Type 0
Told Is ys i None = length ys ≤ i
Told {X} {Y} Is ys i (Some x) = (y : Y) × Is x y × Stands ys i y
