-- What a function answers that holds a word against the limits and keeps what it says.
use Rattle.std.specs.Prelude.{◌≡◌, ℕ, ◌+◌, ◌<◌, ◌≤◌, List, Some, None, Result, MatchResult, length}
use Rattle.room.specs.Items.{items}
use Rattle.terms.specs.declared.kind.Kind.{Kind}
use Rattle.terms.specs.declared.kind.Kind.TheVariants.{Iri, Literal}
use Rattle.tokens.specs.declared.token.Lexeme.{Lexeme}
use Rattle.tokens.specs.Words.{Word, iri, literal}
use Rattle.grammar.specs.declared.refusal.Reason.{Reason}
use Rattle.grammar.specs.declared.refusal.Reason.TheVariants.{NoQuestion, TooDeep}
use Rattle.grammar.specs.Limits.{after, limit}
use Rattle.question.specs.declared.reader.Reader.{Reader}
use Rattle.question.specs.Views.{text_of, seen_of, view, Idle}
use Rattle.question.specs.Outcomes.{Numbered}

abbrev pub term_word : Kind → List ℕ → Word
term_word Iri x = iri x
term_word Literal x = literal x

-- a token that the reader stands behind, and that none of its terms is of
pub record Passed (l : Lexeme) (r : Reader) : Type 0 where
  pub some : l.start < l.end
  pub behind : l.end ≤ r.next.start
  pub few : length (items r.built.terms) ≤ l.start

pub record Admitted (x : Word) (a b : Reader) (n : ℕ) : Type 0 where
  pub clear : limit (seen_of a) x ≡ None
  pub seen : seen_of b ≡ after (seen_of a) x
  pub text : text_of b ≡ text_of a
  pub next : b.next ≡ a.next
  pub idle : Idle (view a) (view b)
  pub numbered : Numbered (seen_of b) x n

pub record Over (x : Word) (a : Reader) (why : Reason) : Type 0 where
  pub limited : limit (seen_of a) x ≡ Some why
  pub apart : why ≡ NoQuestion → ⊥

pub record Admission (x : Word) (a b : Reader) (r : Result ℕ Reason) : Type 0 where
  pub is : MatchResult r (λ n. Admitted x a b n) (λ why. Over x a why)

pub record Deeper (a b : Reader) : Type 0 where
  pub shallow : a.depth < 16
  pub depth : b.depth ≡ a.depth + 1
  pub next : b.next ≡ a.next
  pub full : b.full ≡ a.full
  pub built : b.built ≡ a.built

abbrev pub Opened : Reader → Reader → Result ℕ Reason → Type 0
Opened a b r = MatchResult r (λ n. Deeper a b) (λ why. (16 ≤ a.depth) × (why ≡ TooDeep))
