-- What the reader's functions promise, in terms of a reader's state: how far it has come, what it has built.
use Rattle.std.specs.Prelude.{◌≡◌, ℕ, ◌+◌, ◌<◌, ◌≤◌, Bool, true, false, List, ◌∷◌, ◌++◌, map, length, Some, slice_index_or}
use Rattle.room.specs.Items.{items}
use Rattle.tokens.specs.declared.token.Token.{Token}
use Rattle.tokens.specs.Words.{Word, sort, same}
use Rattle.tokens.specs.Lexed.{Spot, ahead}
use Rattle.grammar.specs.declared.refusal.Reason.{Reason}
use Rattle.grammar.specs.declared.refusal.Reason.TheVariants.{NoQuestion, TooDeep, TooManyVariables, TooLong}
use Rattle.grammar.specs.declared.refusal.Fault.{Fault}
use Rattle.grammar.specs.Grammar.{Ends, Paths, Patterns}
use Rattle.grammar.specs.Limits.{Seen, gather, limit, Clear}
use Rattle.grammar.specs.Reading.{words}
use Rattle.grammar.specs.Machine.{Symbol, the, Reaches}
use Rattle.question.specs.declared.node.End.{End}
use Rattle.question.specs.declared.node.PathNode.{PathNode}
use Rattle.question.specs.declared.node.PatternNode.{PatternNode}
use Rattle.question.specs.declared.reader.Reader.{Reader}
use Rattle.question.specs.Arena.{name_of, term_of, Env, paths_of, patterns_of, end_of}

pub record View : Type 0 where
  -- the tokens that are still to be read, and the offset of the first
  pub spots : List Spot
  pub start : ℕ
  pub seen : Seen
  pub paths : List PathNode
  pub patterns : List PatternNode
  pub count : ℕ
  pub full : Bool

abbrev pub text_of : Reader → List ℕ
text_of r = items r.built.text

abbrev pub seen_of : Reader → Seen
seen_of r = record { depth = r.depth; names = map (name_of (text_of r)) (items r.built.names); terms = map (term_of (text_of r)) (items r.built.terms) }

abbrev pub view : Reader → View
view r = record {
  spots = ahead (text_of r) r.next;
  start = r.next.start;
  seen = seen_of r;
  paths = items r.built.paths;
  patterns = items r.built.patterns;
  count = r.built.nodes;
  full = r.full;
}

-- ---- from one state to another

pub record Passes (a b : View) : Type 0 where
  pub passed : List Spot
  pub split : a.spots ≡ passed ++ b.spots
  pub clear : Clear a.seen (words passed)
  pub gathers : gather a.seen (words passed) ≡ b.seen

abbrev pub Grows : {X : Type 0} → List X → List X → Type 0
Grows {X} xs ys = (more : List X) × (ys ≡ xs ++ more)

-- where the arenas did not fill up they have only grown
pub record Kept (a b : View) : Type 0 where
  pub free : b.full ≡ false → a.full ≡ false
  pub paths : b.full ≡ false → Grows a.paths b.paths
  pub patterns : b.full ≡ false → Grows a.patterns b.patterns
  pub forward : a.start ≤ b.start

-- the symbols σ came down to τ
pub record Went (σ τ : List Symbol) (a b : View) : Type 0 where
  pub reach : (ρ : List Symbol) → Reaches (σ ++ ρ) (words a.spots) (τ ++ ρ) (words b.spots)
  pub passes : Passes a b
  pub kept : Kept a b

-- m nodes were counted before, and now they are n
pub record Counted (a b : View) (m n : ℕ) : Type 0 where
  pub short : b.full ≡ false → a.count + n ≡ b.count + m
  pub long : a.full ≡ false → b.full ≡ true → 64 + m < a.count + n

-- nothing was built
pub record Idle (a b : View) : Type 0 where
  pub paths : b.paths ≡ a.paths
  pub patterns : b.patterns ≡ a.patterns
  pub count : b.count ≡ a.count
  pub full : b.full ≡ a.full

-- ---- a fault

-- the machine waits for a word of one sort, and the next is of another or is over a limit
abbrev pub Because : Reason → Seen → Token → Word → Type 0
Because NoQuestion s t x = same t (sort x) ≡ false
Because TooDeep s t x = (same t (sort x) ≡ true) × (limit s x ≡ Some TooDeep)
Because TooManyVariables s t x = (same t (sort x) ≡ true) × (limit s x ≡ Some TooManyVariables)
Because TooLong s t x = (same t (sort x) ≡ true) × (limit s x ≡ Some TooLong)

pub record Stopped (σ : List Symbol) (v : List Word) (x : Word) (w : List Word) (s : Seen) (why : Reason) : Type 0 where
  pub waits : Token
  pub below : List Symbol
  pub reach : Reaches σ v (the waits ∷ below) (x ∷ w)
  pub because : Because why s waits x

-- a symbol was to be read, and the reader stopped at a token
pub record Failed (x : Symbol) (a : View) (f : Fault) : Type 0 where
  pub passed : List Spot
  pub here : Spot
  pub behind : List Spot
  pub split : a.spots ≡ passed ++ here ∷ behind
  pub place : here.at ≡ f.at
  pub clear : Clear a.seen (words passed)
  pub stops : (ρ : List Symbol) → Stopped (x ∷ ρ) (words a.spots) here.word (words behind) (gather a.seen (words passed)) f.reason

-- ---- what is built

pub record Stands {X : Type 0} (xs : List X) (i : ℕ) (x : X) : Type 0 where
  pub within : i < length xs
  pub is : (d : X) → slice_index_or xs i d ≡ x

abbrev pub Fits : {X : Type 0} → List X → (ℕ → X) → Type 0
Fits {X} xs f = (i : ℕ) (x : X) → Stands xs i x → f i ≡ x

-- numbers stand for what the state has by these numbers; of what is to come they may stand for anything
pub record Sees (a : View) (e : Env) : Type 0 where
  pub terms : Fits a.seen.terms e.term
  pub names : Fits a.seen.names e.name
  pub paths : Fits (paths_of e.term a.paths) e.path

pub record HeldPath (a : View) (i : ℕ) (p : Paths) : Type 0 where
  pub stands : (e : Env) → Sees a e → Stands (paths_of e.term a.paths) i p

pub record HeldPattern (a : View) (i : ℕ) (p : Patterns) : Type 0 where
  pub stands : (e : Env) → Sees a e → Stands (patterns_of e a.patterns) i p

pub record HeldEnd (a : View) (x : End ℕ) (v : Ends) : Type 0 where
  pub stands : (e : Env) → Sees a e → end_of e.term e.name x ≡ v
