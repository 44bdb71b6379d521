-- What the cursor and the line reader answer.
use Rattle.std.specs.Prelude.{◌≡◌, ℕ, ◌+◌, ◌<◌, ◌⊎◌, List, [], ◌∷◌, ◌++◌, length, Some, None, Option, MatchOption}
use Rattle.web.specs.Meaning.{Triple}
use Rattle.lines.specs.declared.cursor.Line.{Line}
use Rattle.lines.specs.declared.cursor.Lines.{Lines}
use Rattle.lines.specs.declared.reader.BadLine.{BadLine}
use Rattle.lines.specs.declared.reader.Piece.{Piece}
use Rattle.lines.specs.declared.reader.Reader.{Reader}
use Rattle.lines.specs.declared.saying.Saying.{Saying}
use Rattle.lines.specs.declared.saying.Saying.TheVariants.{Nothing, Opens, States}
use Rattle.lines.specs.declared.saying.Stated.{Stated}
use Rattle.lines.specs.Lines.{lines}
use Rattle.lines.specs.Readings.{Cut, Said, nothing, opens, states, triple}

-- the first line was taken off the bytes, with its LF if it has one: n lines were passed before, and m are passed now
pub record Taken (n : ℕ) (bytes : List ℕ) (line : List ℕ) (number m : ℕ) (rest : List ℕ) : Type 0 where
  pub first : lines bytes ≡ line ∷ lines rest
  pub split : (bytes ≡ line ++ (10 ∷ rest)) ⊎ ((bytes ≡ line) × (rest ≡ []))
  pub count : number ≡ n + 1
  pub next : m ≡ n + 1
  pub less : length rest < length bytes

-- the cursor at s gives a line and comes to t, or stays where there is none
abbrev pub NextLine : Lines → Option Line → Lines → Type 0
NextLine s r t = MatchOption r ((s.rest.now ≡ []) × (t ≡ s)) (λ l. Taken s.passed s.rest.now l.bytes.now l.number t.passed t.rest.now)

-- the reader has come so far, in the same line
abbrev pub Onward : Option (List ℕ) → Reader → Reader → Type 0
Onward o before r = (o ≡ Some r.rest.now) × (r.line ≡ before.line)

-- nothing of that kind stands here
abbrev pub Stuck : {X : Type 0} → Option X → Reader → BadLine → Type 0
Stuck o before e = (o ≡ None) × (e.line ≡ before.line)

-- the reader has come past a term
abbrev pub Past : Option Cut → Reader → Piece → Type 0
Past o before p = (o ≡ Some (record { bytes = p.bytes.now; rest = p.behind.rest.now })) × (p.behind.line ≡ before.line)

-- what the code's parts of a line say
abbrev pub triple_of : Stated → Triple
triple_of s = triple s.subject.now s.predicate.now s.kind s.object.now

abbrev pub said_of : Saying → Said
said_of Nothing = nothing
said_of (Opens a) = opens a.now
said_of (States s) = states (triple_of s)
