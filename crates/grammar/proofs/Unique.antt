-- Words are spelled by one tree at most.
use Rattle.std.proofs.Common.{◌≡◌, ℕ, ◌<◌, List, [], ◌∷◌, sym, refl, ap, ◌∙◌, arith, lit<}
use Rattle.tokens.specs.Words.{Word, end as end_word, close_brace, close_paren, dot, code}
use Rattle.grammar.specs.Grammar.{Kind, is_groups, is_line, is_base, Tree, whole, braces, no_items, items, a_line, an_option, some_groups, groups, no_unions, unions, ends, end_iri, end_literal, end_name, path, no_alternatives, alternatives, chain, no_steps, steps, forward, backward, once, repeated, predicate, other, brackets, one, several, no_members, members, spell}
use Rattle.grammar.specs.Machine.{lead}
use Rattle.grammar.specs.Reading.{OneTree}
use Rattle.grammar.proofs.Spelled.{bind, Stops, any_stops, end_stops, alternatives_stop, steps_stop, item_binds, items_stop}

-- the first word's number
abbrev first : List Word → ℕ
first w = code (lead w)

line_begins : (l : Tree is_line) (w : List Word) → first (spell l w) < 3
line_begins (ends (end_iri x) p b) w = lit< tt
line_begins (ends (end_literal x) p b) w = lit< tt
line_begins (ends (end_name x) p b) w = lit< tt

groups_begin : (gs : Tree is_groups) (w : List Word) → first (spell gs w) ≡ 3
groups_begin (groups (braces is) us) w = refl

base_begins : (b : Tree is_base) (w : List Word) → first (spell b w) ≡ 10 → ⊥
base_begins (predicate x) w e = omega arith
base_begins (other n) w e = omega arith
base_begins (brackets p) w e = omega arith

-- two trees of one kind that spell the same words, each as far as it goes, are one
pub unique : {k : Kind} (t u : Tree k) (w x : List Word) → spell t w ≡ spell u x → Stops k w → Stops k x → (t ≡ u) × (w ≡ x)
unique (whole g) (whole g') w x e h k =
    let r = unique g g' (end_word ∷ w) (end_word ∷ x) e (lit< tt) (lit< tt) in
    let f = r.1 in
    (ap whole r.0, cc)
unique (braces is) (braces is') w x e h k =
    let r = unique is is' (close_brace ∷ w) (close_brace ∷ x) (cc) (lit< tt) (lit< tt) in
    let f = r.1 in
    (ap braces r.0, cc)
unique no_items no_items w x e h k = (refl, e)
unique no_items (items i is) w x e h k = absurd (omega (arith, ap (λ l. bind (lead l)) e, item_binds i (spell is x)))
unique (items i is) no_items w x e h k = absurd (omega (arith, ap (λ l. bind (lead l)) e, item_binds i (spell is w)))
unique (items i is) (items i' is') w x e h k =
    let r = unique i i' (spell is w) (spell is' x) e (items_stop is w h) (items_stop is' x k) in
    let s = unique is is' w x r.1 h k in
    ((λ j. items (r.0 j) (s.0 j)), s.1)
unique (a_line l) (a_line l') w x e h k = let r = unique l l' w x e (any_stops w) (any_stops x) in (ap a_line r.0, r.1)
unique (a_line l) (an_option g) w x e h k = absurd (omega (arith, ap first e, line_begins l w))
unique (a_line l) (some_groups gs) w x e h k = absurd (omega (arith, ap first e, line_begins l w, groups_begin gs x))
unique (an_option g) (a_line l) w x e h k = absurd (omega (arith, ap first e, line_begins l x))
unique (an_option g) (an_option g') w x e h k = let r = unique g g' w x (cc) (any_stops w) (any_stops x) in (ap an_option r.0, r.1)
unique (an_option g) (some_groups gs) w x e h k = absurd (omega (arith, ap first e, groups_begin gs x))
unique (some_groups gs) (a_line l) w x e h k = absurd (omega (arith, ap first e, line_begins l x, groups_begin gs w))
unique (some_groups gs) (an_option g) w x e h k = absurd (omega (arith, ap first e, groups_begin gs w))
unique (some_groups gs) (some_groups gs') w x e h k = let r = unique gs gs' w x e h k in (ap some_groups r.0, r.1)
unique (groups g us) (groups g' us') w x e h k =
    let r = unique g g' (spell us w) (spell us' x) e (any_stops (spell us w)) (any_stops (spell us' x)) in
    let s = unique us us' w x r.1 h k in
    ((λ j. groups (r.0 j) (s.0 j)), s.1)
unique no_unions no_unions w x e h k = (refl, e)
unique no_unions (unions g us) w x e h k = absurd (omega (arith, ap (λ l. bind (lead l)) e))
unique (unions g us) no_unions w x e h k = absurd (omega (arith, ap (λ l. bind (lead l)) e))
unique (unions g us) (unions g' us') w x e h k =
    let r = unique g g' (spell us w) (spell us' x) (cc) (any_stops (spell us w)) (any_stops (spell us' x)) in
    let s = unique us us' w x r.1 h k in
    ((λ j. unions (r.0 j) (s.0 j)), s.1)
unique (ends y p z) (ends y' p' z') w x e h k =
    let q = unique y y' (spell p (spell z (dot ∷ w))) (spell p' (spell z' (dot ∷ x))) e (any_stops (spell p (spell z (dot ∷ w)))) (any_stops (spell p' (spell z' (dot ∷ x)))) in
    let r = unique p p' (spell z (dot ∷ w)) (spell z' (dot ∷ x)) q.1 (end_stops z (dot ∷ w)) (end_stops z' (dot ∷ x)) in
    let s = unique z z' (dot ∷ w) (dot ∷ x) r.1 (lit< tt) (lit< tt) in
    let f = s.1 in
    ((λ j. ends (q.0 j) (r.0 j) (s.0 j)), cc)
unique (end_iri y) (end_iri z) w x e h k = (cc, cc)
unique (end_iri y) (end_literal z) w x e h k = absurd (omega (arith, ap first e))
unique (end_iri y) (end_name z) w x e h k = absurd (omega (arith, ap first e))
unique (end_literal y) (end_iri z) w x e h k = absurd (omega (arith, ap first e))
unique (end_literal y) (end_literal z) w x e h k = (cc, cc)
unique (end_literal y) (end_name z) w x e h k = absurd (omega (arith, ap first e))
unique (end_name y) (end_iri z) w x e h k = absurd (omega (arith, ap first e))
unique (end_name y) (end_literal z) w x e h k = absurd (omega (arith, ap first e))
unique (end_name y) (end_name z) w x e h k = (cc, cc)
unique (path s r) (path s' r') w x e h k =
    let p = unique s s' (spell r w) (spell r' x) e (alternatives_stop r w h) (alternatives_stop r' x k) in
    let q = unique r r' w x p.1 h k in
    ((λ j. path (p.0 j) (q.0 j)), q.1)
unique no_alternatives no_alternatives w x e h k = (refl, e)
unique no_alternatives (alternatives s r) w x e h k = absurd (omega (arith, ap (λ l. bind (lead l)) e))
unique (alternatives s r) no_alternatives w x e h k = absurd (omega (arith, ap (λ l. bind (lead l)) e))
unique (alternatives s r) (alternatives s' r') w x e h k =
    let p = unique s s' (spell r w) (spell r' x) (cc) (alternatives_stop r w h) (alternatives_stop r' x k) in
    let q = unique r r' w x p.1 h k in
    ((λ j. alternatives (p.0 j) (q.0 j)), q.1)
unique (chain s r) (chain s' r') w x e h k =
    let p = unique s s' (spell r w) (spell r' x) e (steps_stop r w h) (steps_stop r' x k) in
    let q = unique r r' w x p.1 h k in
    ((λ j. chain (p.0 j) (q.0 j)), q.1)
unique no_steps no_steps w x e h k = (refl, e)
unique no_steps (steps s r) w x e h k = absurd (omega (arith, ap (λ l. bind (lead l)) e))
unique (steps s r) no_steps w x e h k = absurd (omega (arith, ap (λ l. bind (lead l)) e))
unique (steps s r) (steps s' r') w x e h k =
    let p = unique s s' (spell r w) (spell r' x) (cc) (steps_stop r w h) (steps_stop r' x k) in
    let q = unique r r' w x p.1 h k in
    ((λ j. steps (p.0 j) (q.0 j)), q.1)
unique (forward b s) (forward b' s') w x e h k =
    let p = unique b b' (spell s w) (spell s' x) e (any_stops (spell s w)) (any_stops (spell s' x)) in
    let q = unique s s' w x p.1 h k in
    ((λ j. forward (p.0 j) (q.0 j)), q.1)
unique (forward b s) (backward b' s') w x e h k = absurd (base_begins b (spell s w) (ap first e))
unique (backward b s) (forward b' s') w x e h k = absurd (base_begins b' (spell s' x) (sym (ap first e)))
unique (backward b s) (backward b' s') w x e h k =
    let p = unique b b' (spell s w) (spell s' x) (cc) (any_stops (spell s w)) (any_stops (spell s' x)) in
    let q = unique s s' w x p.1 h k in
    ((λ j. backward (p.0 j) (q.0 j)), q.1)
unique once once w x e h k = (refl, e)
unique once repeated w x e h k = absurd (omega (arith, ap (λ l. bind (lead l)) e))
unique repeated once w x e h k = absurd (omega (arith, ap (λ l. bind (lead l)) e))
unique repeated repeated w x e h k = (refl, cc)
unique (predicate y) (predicate z) w x e h k = (cc, cc)
unique (predicate y) (other n) w x e h k = absurd (omega (arith, ap first e))
unique (predicate y) (brackets p) w x e h k = absurd (omega (arith, ap first e))
unique (other n) (predicate y) w x e h k = absurd (omega (arith, ap first e))
unique (other n) (other n') w x e h k = let r = unique n n' w x (cc) h k in (ap other r.0, r.1)
unique (other n) (brackets p) w x e h k = absurd (omega (arith, ap first e))
unique (brackets p) (predicate y) w x e h k = absurd (omega (arith, ap first e))
unique (brackets p) (other n) w x e h k = absurd (omega (arith, ap first e))
unique (brackets p) (brackets p') w x e h k =
    let r = unique p p' (close_paren ∷ w) (close_paren ∷ x) (cc) (lit< tt) (lit< tt) in
    let f = r.1 in
    (ap brackets r.0, cc)
unique (one y) (one z) w x e h k = (cc, cc)
unique (one y) (several z ms) w x e h k = absurd (omega (arith, ap first e))
unique (several y ms) (one z) w x e h k = absurd (omega (arith, ap first e))
unique (several y ms) (several z ms') w x e h k =
    let r = unique ms ms' w x (cc) h k in
    let same : y ≡ z = cc in
    ((λ j. several (same j) (r.0 j)), r.1)
unique no_members no_members w x e h k = (refl, cc)
unique no_members (members z ms) w x e h k = absurd (omega (arith, ap first e))
unique (members y ms) no_members w x e h k = absurd (omega (arith, ap first e))
unique (members y ms) (members z ms') w x e h k =
    let r = unique ms ms' w x (cc) h k in
    let same : y ≡ z = cc in
    ((λ j. members (same j) (r.0 j)), r.1)

pub one_tree : OneTree
one_tree text t u e f = (unique t u [] [] (sym e ∙ f) (lit< tt) (lit< tt)).0
