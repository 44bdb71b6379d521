-- What each function of the reader answers: a tree of its kind was read, or it could not be.
use Rattle.std.specs.Prelude.{◌≡◌, ℕ, ◌<◌, ◌≤◌, Bool, false, ◌||◌, [], ◌∷◌, ◌++◌, length, Some, None, Option, Result, MatchResult}
use Rattle.tokens.specs.declared.token.Token.{Token}
use Rattle.tokens.specs.declared.token.Token.TheVariants as token
use Rattle.tokens.specs.Words.{Word, sort, same, iri, literal, name, open_brace, close_brace, open_paren, close_paren, dot, bar, slash, caret, star, bang, optional, union, wrong, end}
use Rattle.grammar.specs.declared.refusal.Fault.{Fault}
use Rattle.grammar.specs.Syntax.{path_nodes, nodes}
use Rattle.grammar.specs.Grammar.{Kind, is_suffix, is_members, is_end, is_item, is_items, Tree, spell, means, Paths, Patterns, iri_term, literal_term}
use Rattle.grammar.specs.Limits.{Seen, after}
use Rattle.grammar.specs.Reading.{words}
use Rattle.grammar.specs.Machine.{Symbol, the, a}
use Rattle.question.specs.declared.node.End.{End}
use Rattle.question.specs.declared.node.PathNode.{PathNode}
use Rattle.question.specs.declared.node.PatternNode.{PatternNode}
use Rattle.question.specs.declared.node.PatternNode.TheVariants.{Empty, And}
use Rattle.question.specs.Behind.{end_terms, end_names}
use Rattle.question.specs.Views.{View, Went, Counted, Idle, Failed, Stands, HeldPath, HeldPattern, HeldEnd}

-- it was read, or the symbol failed
pub record Outcome {X : Type 0} (x : Symbol) (from : View) (Good : X → Type 0) (r : Result X Fault) : Type 0 where
  pub is : MatchResult r Good (λ f. Failed x from f)

-- the number of a word among the terms or the variables
abbrev pub Numbered : Seen → Word → ℕ → Type 0
Numbered s (iri x) n = Stands s.terms n (iri_term x)
Numbered s (literal x) n = Stands s.terms n (literal_term x)
Numbered s (name x) n = Stands s.names n x
Numbered s open_brace n = Unit {0}
Numbered s close_brace n = Unit {0}
Numbered s open_paren n = Unit {0}
Numbered s close_paren n = Unit {0}
Numbered s dot n = Unit {0}
Numbered s bar n = Unit {0}
Numbered s slash n = Unit {0}
Numbered s caret n = Unit {0}
Numbered s star n = Unit {0}
Numbered s bang n = Unit {0}
Numbered s optional n = Unit {0}
Numbered s union n = Unit {0}
Numbered s wrong n = Unit {0}
Numbered s end n = Unit {0}

-- a word of one sort was passed
pub record Took (t : Token) (from to : View) (n : ℕ) : Type 0 where
  pub word : Word
  pub sorted : sort word ≡ t
  pub reads : words from.spots ≡ word ∷ words to.spots
  pub went : Went (the t ∷ []) [] from to
  pub seen : to.seen ≡ after from.seen word
  pub idle : Idle from to
  pub numbered : Numbered to.seen word n
  pub falls : from.start < to.start

abbrev pub Takes : Token → View → View → Result ℕ Fault → Type 0
Takes t from to r = Outcome (the t) from (λ n. Took t from to n) r

-- a tree was read that means a path or a pattern, and the arena has it at i; m nodes of it were counted before
pub record Read {X : Type 0} (k : Kind) (of : Tree k → X) (size : X → ℕ) (Held : View → ℕ → X → Type 0) (from to : View) (i : ℕ) : Type 0 where
  pub tree : Tree k
  pub reads : words from.spots ≡ spell tree (words to.spots)
  pub went : Went (a k ∷ []) [] from to
  pub counted : Counted from to 0 (size (of tree))
  pub held : to.full ≡ false → Held to i (of tree)

abbrev pub PathRead : (k : Kind) → (Tree k → Paths) → View → View → Result ℕ Fault → Type 0
PathRead k of from to r = Outcome (a k) from (λ i. Read k of path_nodes HeldPath from to i) r

abbrev pub PatternRead : (k : Kind) → (Tree k → Patterns) → View → View → Result ℕ Fault → Type 0
PatternRead k of from to r = Outcome (a k) from (λ i. Read k of nodes HeldPattern from to i) r

pub record ReadEnd (from to : View) (x : End ℕ) : Type 0 where
  pub tree : Tree is_end
  pub reads : words from.spots ≡ spell tree (words to.spots)
  pub went : Went (a is_end ∷ []) [] from to
  pub idle : Idle from to
  pub held : HeldEnd to x (means tree)
  pub terms : end_terms x ≤ length to.seen.terms
  pub names : end_names x ≤ length to.seen.names

pub record ReadMembers (from to : View) : Type 0 where
  pub tree : Tree is_members
  pub reads : words from.spots ≡ spell tree (words to.spots)
  pub went : Went (a is_members ∷ []) [] from to
  pub idle : Idle from to
  pub terms : to.seen.terms ≡ from.seen.terms ++ means tree

-- what stands to the left of a star, or of nothing, is at an index
pub record ReadSuffix (left : ℕ) (from to : View) (i : ℕ) : Type 0 where
  pub tree : Tree is_suffix
  pub reads : words from.spots ≡ spell tree (words to.spots)
  pub went : Went (a is_suffix ∷ []) [] from to
  pub counted : (l : Paths) → Counted from to (path_nodes l) (path_nodes (means tree l))
  pub held : to.full ≡ false → (l : Paths) → HeldPath from left l → HeldPath to i (means tree l)

-- ---- what stands to the left in a group

abbrev pub HeldLeft : View → Option ℕ → Option Patterns → Type 0
HeldLeft at None None = Unit {0}
HeldLeft at None (Some p) = ⊥
HeldLeft at (Some i) None = ⊥
HeldLeft at (Some i) (Some p) = HeldPattern at i p

abbrev pub Alike : Option ℕ → Option Patterns → Type 0
Alike None None = Unit {0}
Alike None (Some p) = ⊥
Alike (Some i) None = ⊥
Alike (Some i) (Some p) = Unit {0}

abbrev pub left_nodes : Option Patterns → ℕ
left_nodes None = 0
left_nodes (Some p) = nodes p

pub record ReadItem (left : Option ℕ) (from to : View) (i : ℕ) : Type 0 where
  pub tree : Tree is_item
  pub reads : words from.spots ≡ spell tree (words to.spots)
  pub went : Went (a is_item ∷ []) [] from to
  pub counted : (l : Option Patterns) → Alike left l → Counted from to (left_nodes l) (nodes (means tree l))
  pub held : to.full ≡ false → (l : Option Patterns) → HeldLeft from left l → HeldPattern to i (means tree l)

pub record ReadItems (from to : View) (o : Option ℕ) : Type 0 where
  pub tree : Tree is_items
  pub reads : words from.spots ≡ spell tree (words to.spots)
  pub went : Went (a is_items ∷ []) [] from to
  pub alike : Alike o (means tree None)
  pub counted : Counted from to 0 (left_nodes (means tree None))
  pub held : to.full ≡ false → HeldLeft to o (means tree None)

-- ---- one node more

pub record Placed (from to : View) (cost : ℕ) : Type 0 where
  pub spots : to.spots ≡ from.spots
  pub start : to.start ≡ from.start
  pub seen : to.seen ≡ from.seen
  pub free : to.full ≡ false → from.full ≡ false
  pub counted : Counted from to 0 cost

pub record PlacedPath (from to : View) (x : PathNode) (cost i : ℕ) : Type 0 where
  pub placed : Placed from to cost
  pub patterns : to.patterns ≡ from.patterns
  pub paths : to.full ≡ false → to.paths ≡ from.paths ++ x ∷ []
  pub index : to.full ≡ false → i ≡ length from.paths

pub record PlacedPattern (from to : View) (x : PatternNode) (cost i : ℕ) : Type 0 where
  pub placed : Placed from to cost
  pub paths : to.paths ≡ from.paths
  pub patterns : to.full ≡ false → to.patterns ≡ from.patterns ++ x ∷ []
  pub index : to.full ≡ false → i ≡ length from.patterns

-- ---- what is made of the left of a group

-- the left itself, or a new empty pattern
abbrev pub Emptied : Option ℕ → View → View → ℕ → Type 0
Emptied None from to i = PlacedPattern from to Empty 1 i
Emptied (Some l) from to i = (to ≡ from) × (i ≡ l)

-- the right itself, or a new AND
abbrev pub Joined : Option ℕ → ℕ → View → View → ℕ → Type 0
Joined None r from to i = (to ≡ from) × (i ≡ r)
Joined (Some l) r from to i = PlacedPattern from to (And l r) 1 i

abbrev pub begins_item : Token → Bool
begins_item s = same s token.Iri || same s token.Literal || same s token.Variable || same s token.Optional || same s token.OpenBrace
