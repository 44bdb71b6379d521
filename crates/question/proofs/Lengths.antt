-- An item has a word at least.
use Rattle.std.proofs.Common.{◌≡◌, ◌<◌, ◌≤◌, List, ◌∷◌, length, ap, arith}
use lib.ListN.{length-map}
use Rattle.tokens.specs.Words.{Word, open_brace, close_brace, dot, open_paren, close_paren, iri, bar}
use Rattle.tokens.specs.Lexed.{Spot}
use Rattle.grammar.specs.Grammar.{Kind, is_group, is_item, is_line, Tree, whole, braces, no_items, items, a_line, an_option, some_groups, groups, no_unions, unions, ends, end_iri, end_literal, end_name, path, no_alternatives, alternatives, chain, no_steps, steps, forward, backward, once, repeated, predicate, other, brackets, one, several, no_members, members, spell}
use Rattle.grammar.specs.Reading.{words}

longer : {k : Kind} (t : Tree k) (w : List Word) → length w ≤ length (spell t w)
longer (whole g) w = omega (arith, longer g (Rattle.tokens.specs.Words.end ∷ w))
longer (braces is) w = omega (arith, longer is (close_brace ∷ w))
longer no_items w = omega arith
longer (items i is) w = omega (arith, longer i (spell is w), longer is w)
longer (a_line l) w = longer l w
longer (an_option g) w = omega (arith, longer g w)
longer (some_groups gs) w = longer gs w
longer (groups g us) w = omega (arith, longer g (spell us w), longer us w)
longer no_unions w = omega arith
longer (unions g us) w = omega (arith, longer g (spell us w), longer us w)
longer (ends x p y) w = omega (arith, longer x (spell p (spell y (dot ∷ w))), longer p (spell y (dot ∷ w)), longer y (dot ∷ w))
longer (end_iri x) w = omega arith
longer (end_literal x) w = omega arith
longer (end_name x) w = omega arith
longer (path s r) w = omega (arith, longer s (spell r w), longer r w)
longer no_alternatives w = omega arith
longer (alternatives s r) w = omega (arith, longer s (spell r w), longer r w)
longer (chain s r) w = omega (arith, longer s (spell r w), longer r w)
longer no_steps w = omega arith
longer (steps s r) w = omega (arith, longer s (spell r w), longer r w)
longer (forward b s) w = omega (arith, longer b (spell s w), longer s w)
longer (backward b s) w = omega (arith, longer b (spell s w), longer s w)
longer once w = omega arith
longer repeated w = omega arith
longer (predicate x) w = omega arith
longer (other n) w = omega (arith, longer n w)
longer (brackets p) w = omega (arith, longer p (close_paren ∷ w))
longer (one x) w = omega arith
longer (several x ms) w = omega (arith, longer ms w)
longer no_members w = omega arith
longer (members x ms) w = omega (arith, longer ms w)

group_longer : (t : Tree is_group) (w : List Word) → length w < length (spell t w)
group_longer (braces is) w = omega (arith, longer is (close_brace ∷ w))

line_longer : (t : Tree is_line) (w : List Word) → length w < length (spell t w)
line_longer (ends x p y) w = omega (arith, longer x (spell p (spell y (dot ∷ w))), longer p (spell y (dot ∷ w)), longer y (dot ∷ w))

item_longer : (t : Tree is_item) (w : List Word) → length w < length (spell t w)
item_longer (a_line l) w = line_longer l w
item_longer (an_option g) w = omega (arith, longer g w)
item_longer (some_groups (groups g us)) w = omega (arith, group_longer g (spell us w), longer us w)

pub fewer : (t : Tree is_item) (u v : List Spot) → words u ≡ spell t (words v) → length v < length u
fewer t u v e = omega (arith, item_longer t (words v), ap length e, length-map u (λ s. s.word), length-map v (λ s. s.word))
