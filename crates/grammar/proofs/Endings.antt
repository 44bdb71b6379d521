-- The words of a text, and the words of a question, have their only last word at the end.
use Rattle.std.proofs.Common.{◌≡◌, ℕ, zero, suc, ◌+◌, ◌-◌, Bool, true, false, cond, List, [], ◌∷◌, ◌++◌, refl, ◌∙◌}
use borrow.Author.Tests.{clash}
use Rattle.terms.specs.Bytes.{blank_byte}
use Rattle.tokens.specs.Words.{Word, end as end_word, close_brace, close_paren, dot}
use Rattle.tokens.specs.Lexed.{Spot, final, put, cut, lexeme}
use Rattle.grammar.specs.Grammar.{Kind, is_question, is_group, is_items, is_item, is_groups, is_unions, is_line, is_end, is_path, is_alternatives, is_sequence, is_steps, is_step, is_suffix, is_base, is_negation, is_members, Tree, whole, braces, no_items, items, a_line, an_option, some_groups, groups, no_unions, unions, ends, end_iri, end_literal, end_name, path, no_alternatives, alternatives, chain, no_steps, steps, forward, backward, once, repeated, predicate, other, brackets, one, several, no_members, members, spell}
use Rattle.grammar.specs.Reading.{words}

abbrev none : List Word → Bool
none [] = true
none (x ∷ v) = false

-- there is a last word, and nothing follows it
abbrev pub ended : List Word → Bool
ended [] = false
ended (x ∷ v) = cond (final x) (none v) (ended v)

-- nothing follows
pub ended_all : (v u : List Word) → ended v ≡ true → ended (v ++ u) ≡ true → u ≡ []
ended_all [] u h g = absurd (clash h)
ended_all (x ∷ v) u h g = go (final x) (ended_all v u) h g
  where
    nil : (v u : List Word) → none v ≡ true → none (v ++ u) ≡ true → u ≡ []
    nil [] [] h g = refl
    nil [] (y ∷ u) h g = absurd (clash g)
    nil (y ∷ v) u h g = absurd (clash h)

    go : (b : Bool) → (ended v ≡ true → ended (v ++ u) ≡ true → u ≡ []) → cond b (none v) (ended v) ≡ true → cond b (none (v ++ u)) (ended (v ++ u)) ≡ true → u ≡ []
    go true f h g = nil v u h g
    go false f h g = f h g

-- ---- of a text

put_ended : (i : ℕ) (x : Word) (v : List Spot) → ended (words v) ≡ true → ended (words (put i x v)) ≡ true
put_ended i x v h = go (final x)
  where
    go : (b : Bool) → cond b (none (words (cond b [] v))) (ended (words (cond b [] v))) ≡ true
    go true = refl
    go false = h

either : (t : Bool) (v w : List Spot) → ended (words v) ≡ true → ended (words w) ≡ true → ended (words (cond t v w)) ≡ true
either true v w h g = h
either false v w h g = g

pub cut_ended : (i n : ℕ) (bs : List ℕ) → ended (words (cut i n bs)) ≡ true
unfolding cut
cut_ended i n [] = refl
cut_ended i (suc n) (b ∷ bs) = cut_ended (i + 1) n bs
cut_ended i zero (b ∷ bs) = either (blank_byte b) _ _ (cut_ended (i + 1) zero bs) (put_ended i (lexeme b bs).word _ (cut_ended (i + 1) ((lexeme b bs).size - 1) bs))

-- ---- of a question

-- only a question has the last word
abbrev closing : Kind → List Word → List Word
closing is_question w = end_word ∷ w
closing is_group w = w
closing is_items w = w
closing is_item w = w
closing is_groups w = w
closing is_unions w = w
closing is_line w = w
closing is_end w = w
closing is_path w = w
closing is_alternatives w = w
closing is_sequence w = w
closing is_steps w = w
closing is_step w = w
closing is_suffix w = w
closing is_base w = w
closing is_negation w = w
closing is_members w = w

spell_ended : {k : Kind} (t : Tree k) (w : List Word) → ended (spell t w) ≡ ended (closing k w)
spell_ended (whole g) w = spell_ended g (end_word ∷ w)
spell_ended (braces is) w = spell_ended is (close_brace ∷ w)
spell_ended no_items w = refl
spell_ended (items i is) w = spell_ended i (spell is w) ∙ spell_ended is w
spell_ended (a_line l) w = spell_ended l w
spell_ended (an_option g) w = spell_ended g w
spell_ended (some_groups gs) w = spell_ended gs w
spell_ended (groups g us) w = spell_ended g (spell us w) ∙ spell_ended us w
spell_ended no_unions w = refl
spell_ended (unions g us) w = spell_ended g (spell us w) ∙ spell_ended us w
spell_ended (ends x p y) w = spell_ended x (spell p (spell y (dot ∷ w))) ∙ spell_ended p (spell y (dot ∷ w)) ∙ spell_ended y (dot ∷ w)
spell_ended (end_iri x) w = refl
spell_ended (end_literal x) w = refl
spell_ended (end_name x) w = refl
spell_ended (path s r) w = spell_ended s (spell r w) ∙ spell_ended r w
spell_ended no_alternatives w = refl
spell_ended (alternatives s r) w = spell_ended s (spell r w) ∙ spell_ended r w
spell_ended (chain s r) w = spell_ended s (spell r w) ∙ spell_ended r w
spell_ended no_steps w = refl
spell_ended (steps s r) w = spell_ended s (spell r w) ∙ spell_ended r w
spell_ended (forward b s) w = spell_ended b (spell s w) ∙ spell_ended s w
spell_ended (backward b s) w = spell_ended b (spell s w) ∙ spell_ended s w
spell_ended once w = refl
spell_ended repeated w = refl
spell_ended (predicate x) w = refl
spell_ended (other n) w = spell_ended n w
spell_ended (brackets p) w = spell_ended p (close_paren ∷ w)
spell_ended (one x) w = refl
spell_ended (several x ms) w = spell_ended ms w
spell_ended no_members w = refl
spell_ended (members x ms) w = spell_ended ms w

pub question_ended : (t : Tree is_question) → ended (spell t []) ≡ true
question_ended t = spell_ended t []
