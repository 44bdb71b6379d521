-- What is kept of the words of a text as they come, and the limits on each word, whatever the grammar says of it.
use Rattle.std.specs.Prelude.{◌≡◌, ℕ, ◌+◌, ◌-◌, Bool, false, cond, ◌||◌, List, [], ◌∷◌, ◌++◌, length, Some, None, Option, nat_le, nat_lt}
use Rattle.terms.specs.Terms.{Term}
use Rattle.tokens.specs.Lexed.{same_bytes}
use Rattle.tokens.specs.Words.{Word, iri, literal, name, open_brace, close_brace, open_paren, close_paren, dot, bar, slash, caret, star, bang, optional, union, wrong, end}
use Rattle.grammar.specs.declared.refusal.Reason.{Reason}
use Rattle.grammar.specs.declared.refusal.Reason.TheVariants.{TooDeep, TooManyVariables, TooLong}
use Rattle.grammar.specs.Grammar.{Name, iri_term, literal_term}

pub record Seen : Type 0 where
  -- how many brackets are open
  pub depth : ℕ
  -- the variables, by first place
  pub names : List Name
  -- the terms, in text order
  pub terms : List Term

abbrev pub nothing : Seen
nothing = record { depth = 0; names = []; terms = [] }

abbrev pub known : Name → List Name → Bool
known x [] = false
known x (y ∷ ys) = same_bytes x y || known x ys

abbrev pub noted : Name → List Name → List Name
noted x ys = cond (known x ys) ys (ys ++ x ∷ [])

abbrev pub deeper : Seen → Seen
deeper s = record { depth = s.depth + 1; names = s.names; terms = s.terms }

abbrev pub shallower : Seen → Seen
shallower s = record { depth = s.depth - 1; names = s.names; terms = s.terms }

abbrev pub with_term : Seen → Term → Seen
with_term s t = record { depth = s.depth; names = s.names; terms = s.terms ++ t ∷ [] }

abbrev pub with_name : Seen → Name → Seen
with_name s x = record { depth = s.depth; names = noted x s.names; terms = s.terms }

-- what is seen after one word more
abbrev pub after : Seen → Word → Seen
after s (iri x) = with_term s (iri_term x)
after s (literal x) = with_term s (literal_term x)
after s (name x) = with_name s x
after s open_brace = deeper s
after s close_brace = shallower s
after s open_paren = deeper s
after s close_paren = shallower s
after s dot = s
after s bar = s
after s slash = s
after s caret = s
after s star = s
after s bang = s
after s optional = s
after s union = s
after s wrong = s
after s end = s

abbrev pub gather : Seen → List Word → Seen
gather s [] = s
gather s (x ∷ v) = gather (after s x) v

abbrev pub at_most : ℕ → ℕ → Option Reason
at_most most n = cond (nat_le n most) None (Some TooLong)

-- at most 16 brackets are open
abbrev pub opening : Seen → Option Reason
opening s = cond (nat_lt s.depth 16) None (Some TooDeep)

-- Why a word is refused, if it is, after what was seen. A name that was seen before passed its limits then.
abbrev pub limit : Seen → Word → Option Reason
limit s (iri x) = at_most 128 (length x)
limit s (literal x) = at_most 128 (length x)
limit s (name x) = cond (known x s.names) None (cond (nat_lt (length s.names) 8) (at_most 16 (length x)) (Some TooManyVariables))
limit s open_brace = opening s
limit s close_brace = None
limit s open_paren = opening s
limit s close_paren = None
limit s dot = None
limit s bar = None
limit s slash = None
limit s caret = None
limit s star = None
limit s bang = None
limit s optional = None
limit s union = None
limit s wrong = None
limit s end = None

-- no word is refused
abbrev pub Clear : Seen → List Word → Type 0
Clear s [] = Unit {0}
Clear s (x ∷ v) = (limit s x ≡ None) × Clear (after s x) v
