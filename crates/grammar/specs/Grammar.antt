-- The grammar of questions. A tree of a kind is one way to derive that kind: each constructor is a rule, `spell` its tokens, and `means` the
-- syntax that it stands for. A text derives a tree if its words are the words that the tree spells.
use Rattle.std.specs.Prelude.{ℕ, List, [], ◌∷◌, Some, None, Option}
use Rattle.terms.specs.declared.kind.Kind.TheVariants.{Iri, Literal}
use Rattle.terms.specs.Terms.{Term}
use Rattle.tokens.specs.Words.{Word, iri, literal, name, open_brace, close_brace, open_paren, close_paren, dot, bar, slash, caret, star as star_word, bang, optional, union as union_word, end as end_word}
use Rattle.grammar.specs.Syntax.{Path, link, negated, inverse, star, sequence, alternative, End, constant, variable, Pattern, empty, line, and, union, opt}

pub data Kind : Type 0 where
  is_question is_group is_items is_item is_groups is_unions is_line is_end : Kind
  is_path is_alternatives is_sequence is_steps is_step is_suffix is_base is_negation is_members : Kind

pub data Tree : Kind → Type 0 where
  -- question: group
  whole : Tree is_group → Tree is_question
  -- group: { items }
  braces : Tree is_items → Tree is_group
  -- items: nothing, or item items
  no_items : Tree is_items
  items : Tree is_item → Tree is_items → Tree is_items
  -- item: line, or OPTIONAL group, or groups
  a_line : Tree is_line → Tree is_item
  an_option : Tree is_group → Tree is_item
  some_groups : Tree is_groups → Tree is_item
  -- groups: group unions
  groups : Tree is_group → Tree is_unions → Tree is_groups
  -- unions: nothing, or UNION group unions
  no_unions : Tree is_unions
  unions : Tree is_group → Tree is_unions → Tree is_unions
  -- line: end path end .
  ends : Tree is_end → Tree is_path → Tree is_end → Tree is_line
  -- end: <iri>, or "literal", or ?name
  end_iri : List ℕ → Tree is_end
  end_literal : List ℕ → Tree is_end
  end_name : List ℕ → Tree is_end
  -- path: sequence alternatives
  path : Tree is_sequence → Tree is_alternatives → Tree is_path
  -- alternatives: nothing, or | sequence alternatives
  no_alternatives : Tree is_alternatives
  alternatives : Tree is_sequence → Tree is_alternatives → Tree is_alternatives
  -- sequence: step steps
  chain : Tree is_step → Tree is_steps → Tree is_sequence
  -- steps: nothing, or / step steps
  no_steps : Tree is_steps
  steps : Tree is_step → Tree is_steps → Tree is_steps
  -- step: base suffix, or ^ base suffix
  forward : Tree is_base → Tree is_suffix → Tree is_step
  backward : Tree is_base → Tree is_suffix → Tree is_step
  -- suffix: nothing, or *
  once : Tree is_suffix
  repeated : Tree is_suffix
  -- base: <iri>, or ! negation, or ( path )
  predicate : List ℕ → Tree is_base
  other : Tree is_negation → Tree is_base
  brackets : Tree is_path → Tree is_base
  -- negation: <iri>, or ( <iri> members
  one : List ℕ → Tree is_negation
  several : List ℕ → Tree is_members → Tree is_negation
  -- members: ), or | <iri> members
  no_members : Tree is_members
  members : List ℕ → Tree is_members → Tree is_members

-- the words of a tree, and then w
abbrev pub spell : {k : Kind} → Tree k → List Word → List Word
spell (whole g) w = spell g (end_word ∷ w)
spell (braces is) w = open_brace ∷ spell is (close_brace ∷ w)
spell no_items w = w
spell (items i is) w = spell i (spell is w)
spell (a_line l) w = spell l w
spell (an_option g) w = optional ∷ spell g w
spell (some_groups gs) w = spell gs w
spell (groups g us) w = spell g (spell us w)
spell no_unions w = w
spell (unions g us) w = union_word ∷ spell g (spell us w)
spell (ends a p b) w = spell a (spell p (spell b (dot ∷ w)))
spell (end_iri x) w = iri x ∷ w
spell (end_literal x) w = literal x ∷ w
spell (end_name x) w = name x ∷ w
spell (path s r) w = spell s (spell r w)
spell no_alternatives w = w
spell (alternatives s r) w = bar ∷ spell s (spell r w)
spell (chain s ss) w = spell s (spell ss w)
spell no_steps w = w
spell (steps s ss) w = slash ∷ spell s (spell ss w)
spell (forward b s) w = spell b (spell s w)
spell (backward b s) w = caret ∷ spell b (spell s w)
spell once w = w
spell repeated w = star_word ∷ w
spell (predicate x) w = iri x ∷ w
spell (other n) w = bang ∷ spell n w
spell (brackets p) w = open_paren ∷ spell p (close_paren ∷ w)
spell (one x) w = iri x ∷ w
spell (several x ms) w = open_paren ∷ iri x ∷ spell ms w
spell no_members w = close_paren ∷ w
spell (members x ms) w = bar ∷ iri x ∷ spell ms w

-- ---- what a tree means

abbrev pub Name : Type 0
Name = List ℕ

abbrev pub Ends : Type 0
Ends = End Term Name

abbrev pub Paths : Type 0
Paths = Path Term

abbrev pub Patterns : Type 0
Patterns = Pattern Term Name

abbrev pub iri_term : List ℕ → Term
iri_term x = record { kind = Iri; bytes = x }

abbrev pub literal_term : List ℕ → Term
literal_term x = record { kind = Literal; bytes = x }

-- A chain groups from the left: its rest means a function of what stands to the left of it.
-- In a group that is nothing at first.
abbrev pub Meaning : Kind → Type 0
Meaning is_question = Patterns
Meaning is_group = Patterns
Meaning is_items = Option Patterns → Option Patterns
Meaning is_item = Option Patterns → Patterns
Meaning is_groups = Patterns
Meaning is_unions = Patterns → Patterns
Meaning is_line = Patterns
Meaning is_end = Ends
Meaning is_path = Paths
Meaning is_alternatives = Paths → Paths
Meaning is_sequence = Paths
Meaning is_steps = Paths → Paths
Meaning is_step = Paths
Meaning is_suffix = Paths → Paths
Meaning is_base = Paths
Meaning is_negation = Paths
Meaning is_members = List Term

-- a line or a union that opens a group stands alone; any other is joined by AND to all before it
abbrev pub joined : Option Patterns → Patterns → Patterns
joined None p = p
joined (Some l) p = and l p

-- nothing is the empty pattern
abbrev pub or_empty : Option Patterns → Patterns
or_empty None = empty
or_empty (Some l) = l

abbrev pub means : {k : Kind} → Tree k → Meaning k
means (whole g) = means g
means (braces is) = or_empty (means is None)
means no_items = λ l. l
means (items i is) = λ l. means is (Some (means i l))
means (a_line p) = λ l. joined l (means p)
means (an_option g) = λ l. opt (or_empty l) (means g)
means (some_groups gs) = λ l. joined l (means gs)
means (groups g us) = means us (means g)
means no_unions = λ l. l
means (unions g us) = λ l. means us (union l (means g))
means (ends a p b) = line (means a) (means p) (means b)
means (end_iri x) = constant (iri_term x)
means (end_literal x) = constant (literal_term x)
means (end_name x) = variable x
means (path s r) = means r (means s)
means no_alternatives = λ l. l
means (alternatives s r) = λ l. means r (alternative l (means s))
means (chain s ss) = means ss (means s)
means no_steps = λ l. l
means (steps s ss) = λ l. means ss (sequence l (means s))
means (forward b s) = means s (means b)
means (backward b s) = inverse (means s (means b))
means once = λ l. l
means repeated = λ l. star l
means (predicate x) = link (iri_term x)
means (other n) = means n
means (brackets p) = means p
means (one x) = negated (iri_term x ∷ [])
means (several x ms) = negated (iri_term x ∷ means ms)
means no_members = []
means (members x ms) = iri_term x ∷ means ms
