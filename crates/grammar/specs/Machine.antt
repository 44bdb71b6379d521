-- A machine that predicts each rule of the grammar from the next word. The reader's inner promises speak of it; what a question is does not.
use Rattle.std.specs.Prelude.{◌≡◌, ℕ, zero, suc, cond, List, [], ◌∷◌, ◌++◌}
use Rattle.tokens.specs.declared.token.Token.{Token}
use Rattle.tokens.specs.declared.token.Token.TheVariants.{Iri, Literal, Variable, OpenBrace, CloseBrace, OpenParen, CloseParen, Dot, Bar, Slash, Caret, Star, Bang, Optional, Union, End}
use Rattle.tokens.specs.Words.{Word, sort, same}
use Rattle.grammar.specs.Grammar.{Kind, is_question, is_group, is_items, is_item, is_groups, is_unions, is_line, is_end, is_path, is_alternatives, is_sequence, is_steps, is_step, is_suffix, is_base, is_negation, is_members}

-- what is still to come: a word of a sort, or a tree of a kind
pub data Symbol : Type 0 where
  the : Token → Symbol
  a : Kind → Symbol

-- the parts of a kind, by the sort of the next word
abbrev pub parts : Kind → Token → List Symbol
parts is_question s = a is_group ∷ the End ∷ []
parts is_group s = the OpenBrace ∷ a is_items ∷ the CloseBrace ∷ []
parts is_items s =
    cond (same s Iri) (a is_item ∷ a is_items ∷ []) (cond (same s Literal) (a is_item ∷ a is_items ∷ []) (cond (same s Variable) (a is_item ∷ a is_items ∷ [])
    (cond (same s Optional) (a is_item ∷ a is_items ∷ []) (cond (same s OpenBrace) (a is_item ∷ a is_items ∷ []) []))))
parts is_item s = cond (same s Optional) (the Optional ∷ a is_group ∷ []) (cond (same s OpenBrace) (a is_groups ∷ []) (a is_line ∷ []))
parts is_groups s = a is_group ∷ a is_unions ∷ []
parts is_unions s = cond (same s Union) (the Union ∷ a is_group ∷ a is_unions ∷ []) []
parts is_line s = a is_end ∷ a is_path ∷ a is_end ∷ the Dot ∷ []
parts is_end s = cond (same s Iri) (the Iri ∷ []) (cond (same s Literal) (the Literal ∷ []) (the Variable ∷ []))
parts is_path s = a is_sequence ∷ a is_alternatives ∷ []
parts is_alternatives s = cond (same s Bar) (the Bar ∷ a is_sequence ∷ a is_alternatives ∷ []) []
parts is_sequence s = a is_step ∷ a is_steps ∷ []
parts is_steps s = cond (same s Slash) (the Slash ∷ a is_step ∷ a is_steps ∷ []) []
parts is_step s = cond (same s Caret) (the Caret ∷ a is_base ∷ a is_suffix ∷ []) (a is_base ∷ a is_suffix ∷ [])
parts is_suffix s = cond (same s Star) (the Star ∷ []) []
parts is_base s = cond (same s Bang) (the Bang ∷ a is_negation ∷ []) (cond (same s OpenParen) (the OpenParen ∷ a is_path ∷ the CloseParen ∷ []) (the Iri ∷ []))
parts is_negation s = cond (same s OpenParen) (the OpenParen ∷ the Iri ∷ a is_members ∷ []) (the Iri ∷ [])
parts is_members s = cond (same s Bar) (the Bar ∷ the Iri ∷ a is_members ∷ []) (the CloseParen ∷ [])

pub data Config : Type 0 where
  at : List Symbol → List Word → Config

abbrev pub lead : List Word → Token
lead [] = End
lead (x ∷ v) = sort x

-- one move: a kind is taken apart, or a word of the sort that is to come is passed; any other word stops the machine
unfoldable pub move : Config → Config
move (at [] v) = at [] v
move (at (the t ∷ σ) []) = at (the t ∷ σ) []
move (at (the t ∷ σ) (x ∷ v)) = cond (same t (sort x)) (at σ v) (at (the t ∷ σ) (x ∷ v))
move (at (a k ∷ σ) v) = at (parts k (lead v) ++ σ) v

unfoldable pub run : ℕ → Config → Config
run zero c = c
run (suc n) c = run n (move c)

pub record Reaches (σ : List Symbol) (v : List Word) (τ : List Symbol) (w : List Word) : Type 0 where
  pub moves : ℕ
  pub does : run moves (at σ v) ≡ at τ w
