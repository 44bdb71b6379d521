-- The machine reads every tree, whole, where the next word does not go on with it.
use Rattle.std.proofs.Common.{◌≡◌, ℕ, ◌<◌, false, cond, List, [], ◌∷◌, refl, ap, arith, lit<}
use Rattle.tokens.specs.declared.token.Token.{Token}
use Rattle.tokens.specs.declared.token.Token.TheVariants.{Iri, Literal, Variable, OpenBrace, CloseBrace, OpenParen, CloseParen, Dot, Bar, Slash, Caret, Star, Bang, Optional, Union, Wrong, End}
use Rattle.tokens.specs.Words.{Word, iri, literal, name, open_brace, close_brace, open_paren, close_paren, dot, bar, slash, caret, star as star_word, bang, optional, union as union_word, end as end_word, same}
use Rattle.grammar.specs.Grammar.{Kind, is_question, is_group, is_items, is_item, is_groups, is_unions, is_line, is_end, is_path, is_alternatives, is_sequence, is_steps, is_step, is_suffix, is_base, is_negation, is_members, Tree, whole, braces, no_items, items, a_line, an_option, some_groups, groups, no_unions, unions, ends, end_iri, end_literal, end_name, path, no_alternatives, alternatives, chain, no_steps, steps, forward, backward, once, repeated, predicate, other, brackets, one, several, no_members, members, spell}
use Rattle.grammar.specs.Machine.{Symbol, the, a, parts, lead, Reaches}
use Rattle.grammar.proofs.Moves.{differ, reach_stay, reach_then, reach_open, reach_take}

-- how tightly a word binds to what stands before it
abbrev pub bind : Token → ℕ
bind Iri = 1
bind Literal = 1
bind Variable = 1
bind OpenBrace = 1
bind CloseBrace = 0
bind OpenParen = 0
bind CloseParen = 0
bind Dot = 0
bind Bar = 3
bind Slash = 4
bind Caret = 0
bind Star = 5
bind Bang = 0
bind Optional = 1
bind Union = 2
bind Wrong = 0
bind End = 0

-- what binds so or more tightly may go on with a tree of a kind
abbrev pub level : Kind → ℕ
level is_question = 6
level is_group = 6
level is_items = 1
level is_item = 2
level is_groups = 2
level is_unions = 2
level is_line = 6
level is_end = 6
level is_path = 3
level is_alternatives = 3
level is_sequence = 4
level is_steps = 4
level is_step = 5
level is_suffix = 5
level is_base = 6
level is_negation = 6
level is_members = 6

-- the next word does not go on with a tree of this kind
abbrev pub Stops : Kind → List Word → Type 0
Stops k w = bind (lead w) < level k

bind_below : (s : Token) → bind s < 6
bind_below Iri = lit< tt
bind_below Literal = lit< tt
bind_below Variable = lit< tt
bind_below OpenBrace = lit< tt
bind_below CloseBrace = lit< tt
bind_below OpenParen = lit< tt
bind_below CloseParen = lit< tt
bind_below Dot = lit< tt
bind_below Bar = lit< tt
bind_below Slash = lit< tt
bind_below Caret = lit< tt
bind_below Star = lit< tt
bind_below Bang = lit< tt
bind_below Optional = lit< tt
bind_below Union = lit< tt
bind_below Wrong = lit< tt
bind_below End = lit< tt

pub any_stops : (w : List Word) → bind (lead w) < 6
any_stops w = bind_below (lead w)

pub end_stops : (y : Tree is_end) (w : List Word) → Stops is_path (spell y w)
end_stops (end_iri x) w = lit< tt
end_stops (end_literal x) w = lit< tt
end_stops (end_name x) w = lit< tt

pub alternatives_stop : (r : Tree is_alternatives) (w : List Word) → Stops is_path w → Stops is_sequence (spell r w)
alternatives_stop no_alternatives w h = omega arith
alternatives_stop (alternatives s r) w h = lit< tt

pub steps_stop : (r : Tree is_steps) (w : List Word) → Stops is_sequence w → Stops is_step (spell r w)
steps_stop no_steps w h = omega arith
steps_stop (steps s r) w h = lit< tt

pub line_binds : (l : Tree is_line) (w : List Word) → bind (lead (spell l w)) ≡ 1
line_binds (ends (end_iri x) p b) w = refl
line_binds (ends (end_literal x) p b) w = refl
line_binds (ends (end_name x) p b) w = refl

pub item_binds : (i : Tree is_item) (w : List Word) → bind (lead (spell i w)) ≡ 1
item_binds (a_line l) w = line_binds l w
item_binds (an_option g) w = refl
item_binds (some_groups (groups (braces is) us)) w = refl

pub items_stop : (is : Tree is_items) (w : List Word) → Stops is_items w → Stops is_item (spell is w)
items_stop no_items w h = omega arith
items_stop (items i is) w h = omega (arith, item_binds i (spell is w))

-- ---- each rule is predicted by the first word

line_leads : (l : Tree is_line) (w : List Word) → parts is_item (lead (spell l w)) ≡ a is_line ∷ []
line_leads (ends (end_iri x) p b) w = refl
line_leads (ends (end_literal x) p b) w = refl
line_leads (ends (end_name x) p b) w = refl

groups_lead : (gs : Tree is_groups) (w : List Word) → parts is_item (lead (spell gs w)) ≡ a is_groups ∷ []
groups_lead (groups (braces is) us) w = refl

item_leads : (i : Tree is_item) (w : List Word) → parts is_items (lead (spell i w)) ≡ a is_item ∷ a is_items ∷ []
item_leads (a_line (ends (end_iri x) p b)) w = refl
item_leads (a_line (ends (end_literal x) p b)) w = refl
item_leads (a_line (ends (end_name x) p b)) w = refl
item_leads (an_option g) w = refl
item_leads (some_groups (groups (braces is) us)) w = refl

base_leads : (b : Tree is_base) (w : List Word) → parts is_step (lead (spell b w)) ≡ a is_base ∷ a is_suffix ∷ []
base_leads (predicate x) w = refl
base_leads (other n) w = refl
base_leads (brackets p) w = refl

-- what binds less is another word
weaker : (t s : Token) → bind s < bind t → same s t ≡ false
weaker t s h = differ s t (λ e. omega (arith, ap bind e))

nothing_more : (t s : Token) (ps : List Symbol) → bind s < bind t → cond (same s t) ps [] ≡ []
nothing_more t s ps h = ap (λ b. cond b ps []) (weaker t s h)

no_more_items : (s : Token) → bind s < 1 → parts is_items s ≡ []
no_more_items s h = rw (weaker Iri s h, weaker Literal s h, weaker Variable s h, weaker Optional s h, weaker OpenBrace s h)

-- ---- the machine reads a tree

pub reads : {k : Kind} (t : Tree k) (σ : List Symbol) (w : List Word) → Stops k w → Reaches (a k ∷ σ) (spell t w) σ w
reads (whole g) σ w h = reach_open is_question _ refl (reach_then (reads g (the End ∷ σ) (end_word ∷ w) (lit< tt)) (reach_take End end_word refl reach_stay))
reads (braces is) σ w h =
    reach_open is_group _ refl (reach_take OpenBrace open_brace refl
    (reach_then (reads is (the CloseBrace ∷ σ) (close_brace ∷ w) (lit< tt)) (reach_take CloseBrace close_brace refl reach_stay)))
reads no_items σ w h = reach_open is_items _ (no_more_items (lead w) h) reach_stay
reads (items i is) σ w h =
    reach_open is_items _ (item_leads i (spell is w)) (reach_then (reads i (a is_items ∷ σ) (spell is w) (items_stop is w h)) (reads is σ w h))
reads (a_line l) σ w h = reach_open is_item _ (line_leads l w) (reads l σ w (any_stops w))
reads (an_option g) σ w h = reach_open is_item _ refl (reach_take Optional optional refl (reads g σ w (any_stops w)))
reads (some_groups gs) σ w h = reach_open is_item _ (groups_lead gs w) (reads gs σ w h)
reads (groups g us) σ w h = reach_open is_groups _ refl (reach_then (reads g (a is_unions ∷ σ) (spell us w) (any_stops (spell us w))) (reads us σ w h))
reads no_unions σ w h = reach_open is_unions _ (nothing_more Union (lead w) _ h) reach_stay
reads (unions g us) σ w h =
    reach_open is_unions _ refl (reach_take Union union_word refl
    (reach_then (reads g (a is_unions ∷ σ) (spell us w) (any_stops (spell us w))) (reads us σ w h)))
reads (ends x p y) σ w h =
    reach_open is_line _ refl
    (reach_then (reads x (a is_path ∷ a is_end ∷ the Dot ∷ σ) (spell p (spell y (dot ∷ w))) (any_stops (spell p (spell y (dot ∷ w)))))
    (reach_then (reads p (a is_end ∷ the Dot ∷ σ) (spell y (dot ∷ w)) (end_stops y (dot ∷ w)))
    (reach_then (reads y (the Dot ∷ σ) (dot ∷ w) (lit< tt)) (reach_take Dot dot refl reach_stay))))
reads (end_iri x) σ w h = reach_open is_end _ refl (reach_take Iri (iri x) refl reach_stay)
reads (end_literal x) σ w h = reach_open is_end _ refl (reach_take Literal (literal x) refl reach_stay)
reads (end_name x) σ w h = reach_open is_end _ refl (reach_take Variable (name x) refl reach_stay)
reads (path s r) σ w h = reach_open is_path _ refl (reach_then (reads s (a is_alternatives ∷ σ) (spell r w) (alternatives_stop r w h)) (reads r σ w h))
reads no_alternatives σ w h = reach_open is_alternatives _ (nothing_more Bar (lead w) _ h) reach_stay
reads (alternatives s r) σ w h =
    reach_open is_alternatives _ refl (reach_take Bar bar refl
    (reach_then (reads s (a is_alternatives ∷ σ) (spell r w) (alternatives_stop r w h)) (reads r σ w h)))
reads (chain s r) σ w h = reach_open is_sequence _ refl (reach_then (reads s (a is_steps ∷ σ) (spell r w) (steps_stop r w h)) (reads r σ w h))
reads no_steps σ w h = reach_open is_steps _ (nothing_more Slash (lead w) _ h) reach_stay
reads (steps s r) σ w h =
    reach_open is_steps _ refl (reach_take Slash slash refl
    (reach_then (reads s (a is_steps ∷ σ) (spell r w) (steps_stop r w h)) (reads r σ w h)))
reads (forward b s) σ w h =
    reach_open is_step _ (base_leads b (spell s w)) (reach_then (reads b (a is_suffix ∷ σ) (spell s w) (any_stops (spell s w))) (reads s σ w h))
reads (backward b s) σ w h =
    reach_open is_step _ refl (reach_take Caret caret refl
    (reach_then (reads b (a is_suffix ∷ σ) (spell s w) (any_stops (spell s w))) (reads s σ w h)))
reads once σ w h = reach_open is_suffix _ (nothing_more Star (lead w) _ h) reach_stay
reads repeated σ w h = reach_open is_suffix _ refl (reach_take Star star_word refl reach_stay)
reads (predicate x) σ w h = reach_open is_base _ refl (reach_take Iri (iri x) refl reach_stay)
reads (other n) σ w h = reach_open is_base _ refl (reach_take Bang bang refl (reads n σ w h))
reads (brackets p) σ w h =
    reach_open is_base _ refl (reach_take OpenParen open_paren refl
    (reach_then (reads p (the CloseParen ∷ σ) (close_paren ∷ w) (lit< tt)) (reach_take CloseParen close_paren refl reach_stay)))
reads (one x) σ w h = reach_open is_negation _ refl (reach_take Iri (iri x) refl reach_stay)
reads (several x ms) σ w h = reach_open is_negation _ refl (reach_take OpenParen open_paren refl (reach_take Iri (iri x) refl (reads ms σ w h)))
reads no_members σ w h = reach_open is_members _ refl (reach_take CloseParen close_paren refl reach_stay)
reads (members x ms) σ w h = reach_open is_members _ refl (reach_take Bar bar refl (reach_take Iri (iri x) refl (reads ms σ w h)))
