-- The machine always comes to a stop.
use Rattle.std.proofs.Common.{Bool, true, false, cond, ◌⊎◌, List, [], ◌∷◌, ◌++◌, refl, inl, inr}
use Rattle.tokens.specs.declared.token.Token.{Token}
use Rattle.tokens.specs.declared.token.Token.TheVariants.{Iri, Literal, Variable, OpenBrace, OpenParen, CloseParen, Bar, Slash, Caret, Star, Bang, Optional, Union}
use Rattle.tokens.specs.Words.{Word, same}
use Rattle.grammar.specs.Grammar.{Kind, is_question, is_group, is_items, is_item, is_groups, is_unions, is_line, is_end, is_path, is_alternatives, is_sequence, is_steps, is_step, is_suffix, is_base, is_negation, is_members}
use Rattle.grammar.specs.Machine.{Symbol, the, a, parts, lead, Reaches}
use Rattle.grammar.proofs.Moves.{reach_stay, reach_open}

-- it comes to where a word is to come, and passes none before
abbrev pub Waits : List Symbol → List Word → Type 0
Waits σ v = (t : Token) × (τ : List Symbol) × Reaches σ v (the t ∷ τ) v

-- or to where nothing is to come
abbrev pub Settled : List Symbol → List Word → Type 0
Settled σ v = Waits σ v ⊎ Reaches σ v [] v

here : (t : Token) (σ : List Symbol) (v : List Word) → Waits (the t ∷ σ) v
here t σ v = (t, σ, reach_stay)

opened : (k : Kind) (σ : List Symbol) (v : List Word) → Waits (parts k (lead v) ++ σ) v → Waits (a k ∷ σ) v
opened k σ v h = (h.0, h.1, reach_open k _ refl h.2)

-- ---- kinds that are never empty

abbrev Solid : Kind → Type 0
Solid k = (σ : List Symbol) (v : List Word) → Waits (a k ∷ σ) v

either : (b : Bool) (ps qs σ : List Symbol) (v : List Word) → Waits (ps ++ σ) v → Waits (qs ++ σ) v → Waits (cond b ps qs ++ σ) v
either true ps qs σ v h g = h
either false ps qs σ v h g = g

group_waits : Solid is_group
group_waits σ v = opened is_group σ v (here OpenBrace _ v)

groups_wait : Solid is_groups
groups_wait σ v = opened is_groups σ v (group_waits _ v)

end_waits : Solid is_end
end_waits σ v = opened is_end σ v (either (same (lead v) Iri) _ _ σ v (here Iri _ v) (either (same (lead v) Literal) _ _ σ v (here Literal _ v) (here Variable _ v)))

line_waits : Solid is_line
line_waits σ v = opened is_line σ v (end_waits _ v)

item_waits : Solid is_item
item_waits σ v = opened is_item σ v (either (same (lead v) Optional) _ _ σ v (here Optional _ v) (either (same (lead v) OpenBrace) _ _ σ v (groups_wait _ v) (line_waits _ v)))

base_waits : Solid is_base
base_waits σ v = opened is_base σ v (either (same (lead v) Bang) _ _ σ v (here Bang _ v) (either (same (lead v) OpenParen) _ _ σ v (here OpenParen _ v) (here Iri _ v)))

step_waits : Solid is_step
step_waits σ v = opened is_step σ v (either (same (lead v) Caret) _ _ σ v (here Caret _ v) (base_waits _ v))

sequence_waits : Solid is_sequence
sequence_waits σ v = opened is_sequence σ v (step_waits _ v)

-- ---- any stack

-- a kind that may be empty
maybe : (k : Kind) (σ : List Symbol) (v : List Word) → Settled (parts k (lead v) ++ σ) v → Settled (a k ∷ σ) v
maybe k σ v (inl h) = inl (opened k σ v h)
maybe k σ v (inr h) = inr (reach_open k _ refl h)

unless : (b : Bool) (ps qs σ : List Symbol) (v : List Word) → Waits (ps ++ σ) v → Settled (qs ++ σ) v → Settled (cond b ps qs ++ σ) v
unless true ps qs σ v h g = inl h
unless false ps qs σ v h g = g

pub settles : (σ : List Symbol) (v : List Word) → Settled σ v
settles [] v = inr reach_stay
settles (the t ∷ σ) v = inl (here t σ v)
settles (a is_question ∷ σ) v = inl (opened is_question σ v (group_waits _ v))
settles (a is_group ∷ σ) v = inl (group_waits σ v)
settles (a is_items ∷ σ) v =
    let more = item_waits (a is_items ∷ σ) v in
    maybe is_items σ v (unless (same (lead v) Iri) _ _ σ v more (unless (same (lead v) Literal) _ _ σ v more (unless (same (lead v) Variable) _ _ σ v more
    (unless (same (lead v) Optional) _ _ σ v more (unless (same (lead v) OpenBrace) _ _ σ v more (settles σ v))))))
settles (a is_item ∷ σ) v = inl (item_waits σ v)
settles (a is_groups ∷ σ) v = inl (groups_wait σ v)
settles (a is_unions ∷ σ) v = maybe is_unions σ v (unless (same (lead v) Union) _ _ σ v (here Union _ v) (settles σ v))
settles (a is_line ∷ σ) v = inl (line_waits σ v)
settles (a is_end ∷ σ) v = inl (end_waits σ v)
settles (a is_path ∷ σ) v = inl (opened is_path σ v (sequence_waits _ v))
settles (a is_alternatives ∷ σ) v = maybe is_alternatives σ v (unless (same (lead v) Bar) _ _ σ v (here Bar _ v) (settles σ v))
settles (a is_sequence ∷ σ) v = inl (sequence_waits σ v)
settles (a is_steps ∷ σ) v = maybe is_steps σ v (unless (same (lead v) Slash) _ _ σ v (here Slash _ v) (settles σ v))
settles (a is_step ∷ σ) v = inl (step_waits σ v)
settles (a is_suffix ∷ σ) v = maybe is_suffix σ v (unless (same (lead v) Star) _ _ σ v (here Star _ v) (settles σ v))
settles (a is_base ∷ σ) v = inl (base_waits σ v)
settles (a is_negation ∷ σ) v = inl (opened is_negation σ v (either (same (lead v) OpenParen) _ _ σ v (here OpenParen _ v) (here Iri _ v)))
settles (a is_members ∷ σ) v = inl (opened is_members σ v (either (same (lead v) Bar) _ _ σ v (here Bar _ v) (here CloseParen _ v)))
