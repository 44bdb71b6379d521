-- Which texts are questions, and how every other text is refused.
use Rattle.std.specs.Prelude.{◌≡◌, ℕ, ◌<◌, ◌≤◌, ◌⊎◌, List, [], ◌∷◌, ◌++◌, map, length, Some, None, Option}
use Rattle.terms.specs.Terms.{Term}
use Rattle.tokens.specs.Words.{Word}
use Rattle.tokens.specs.Lexed.{Spot, tokens}
use Rattle.grammar.specs.declared.refusal.Reason.{Reason}
use Rattle.grammar.specs.declared.refusal.Reason.TheVariants.{NoQuestion, TooDeep, TooManyVariables, TooLong}
use Rattle.grammar.specs.declared.refusal.Fault.{Fault}
use Rattle.grammar.specs.declared.refusal.Refusal.{Refusal}
use Rattle.grammar.specs.declared.refusal.Refusal.TheVariants.{TextTooLong, TooManyNodes, At}
use Rattle.grammar.specs.Syntax.{nodes}
use Rattle.grammar.specs.Grammar.{is_question, Tree, spell, means, Name, Patterns}
use Rattle.grammar.specs.Limits.{nothing, gather, limit, Clear}

-- what a text asks: its pattern, its variables by first place, its terms in text order
pub record Asked : Type 0 where
  pub pattern : Patterns
  pub names : List Name
  pub terms : List Term

abbrev pub words : List Spot → List Word
words v = map (λ s. s.word) v

abbrev pub Derives : List ℕ → Tree is_question → Type 0
Derives text t = words (tokens text) ≡ spell t []

-- the words are those of a tree, and no word is over a limit
pub record Lawful (text : List ℕ) (t : Tree is_question) : Type 0 where
  pub short : length text ≤ 2048
  pub derives : Derives text t
  pub clear : Clear nothing (words (tokens text))

pub record Question (text : List ℕ) (q : Asked) : Type 0 where
  pub tree : Tree is_question
  pub lawful : Lawful text tree
  pub small : nodes (means tree) ≤ 64
  pub pattern : q.pattern ≡ means tree
  pub names : q.names ≡ (gather nothing (words (tokens text))).names
  pub terms : q.terms ≡ (gather nothing (words (tokens text))).terms

-- these words begin some question, limits aside
abbrev pub Begins : List Word → Type 0
Begins v = (t : Tree is_question) × (w : List Word) × (v ++ w ≡ spell t [])

-- Why a word is refused after others that begin a question: with it they begin none, or they do and it is over a limit.
abbrev pub Refuses : Reason → List Word → Word → Type 0
Refuses NoQuestion v x = Begins (v ++ x ∷ []) → ⊥
Refuses TooDeep v x = Begins (v ++ x ∷ []) × (limit (gather nothing v) x ≡ Some TooDeep)
Refuses TooManyVariables v x = Begins (v ++ x ∷ []) × (limit (gather nothing v) x ≡ Some TooManyVariables)
Refuses TooLong v x = Begins (v ++ x ∷ []) × (limit (gather nothing v) x ≡ Some TooLong)

-- the leftmost token that is refused
pub record Faulty (text : List ℕ) (f : Fault) : Type 0 where
  pub before : List Spot
  pub here : Spot
  pub behind : List Spot
  pub split : tokens text ≡ before ++ here ∷ behind
  pub place : here.at ≡ f.at
  pub begins : Begins (words before)
  pub clear : Clear nothing (words before)
  pub refuses : Refuses f.reason (words before) here.word

abbrev pub Refused : List ℕ → Refusal → Type 0
Refused text TextTooLong = 2048 < length text
Refused text TooManyNodes = (t : Tree is_question) × Lawful text t × (64 < nodes (means t))
Refused text (At f) = (length text ≤ 2048) × Faulty text f

-- the number that a refusal is told by, and the offset if it tells one
abbrev pub fault_number : Reason → ℕ
fault_number NoQuestion = 2
fault_number TooDeep = 3
fault_number TooManyVariables = 5
fault_number TooLong = 6

abbrev pub number_of : Refusal → ℕ
number_of TextTooLong = 1
number_of TooManyNodes = 4
number_of (At f) = fault_number f.reason

abbrev pub offset_of : Refusal → Option ℕ
offset_of TextTooLong = None
offset_of TooManyNodes = None
offset_of (At f) = Some f.at

-- ---- laws

-- a text has at most one tree
abbrev pub OneTree : Type 0
OneTree = (text : List ℕ) (t u : Tree is_question) → Derives text t → Derives text u → t ≡ u

-- a text asks at most one question
abbrev pub OneQuestion : Type 0
OneQuestion = (text : List ℕ) (q p : Asked) → Question text q → Question text p → q ≡ p

-- a text is refused in at most one way
abbrev pub OneRefusal : Type 0
OneRefusal = (text : List ℕ) (r s : Refusal) → Refused text r → Refused text s → r ≡ s

-- no question is refused
abbrev pub NotBoth : Type 0
NotBoth = (text : List ℕ) (q : Asked) (r : Refusal) → Question text q → Refused text r → ⊥

-- every text asks a question or is refused
abbrev pub EveryText : Type 0
EveryText = (text : List ℕ) → ((q : Asked) × Question text q) ⊎ ((r : Refusal) × Refused text r)
