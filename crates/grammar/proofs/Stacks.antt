-- The trees that a stack of symbols stands for. Each move of the machine is a rule of the grammar, so that the words passed and the words of
-- any trees for what is still to come are the words of trees for what was to come at first.
use Rattle.std.proofs.Common.{◌≡◌, ℕ, zero, suc, Bool, true, false, cond, List, [], ◌∷◌, ◌++◌, sym, refl, ap, ◌∙◌}
use Rattle.tokens.specs.declared.token.Token.{Token}
use Rattle.tokens.specs.declared.token.Token.TheVariants.{Iri, Literal, Variable, OpenBrace, OpenParen, Bar, Slash, Caret, Star, Bang, Optional, Union}
use Rattle.tokens.specs.Words.{Word, sort, content, saying, same}
use Rattle.grammar.specs.Grammar.{Kind, is_question, is_group, is_items, is_item, is_groups, is_unions, is_line, is_end, is_path, is_alternatives, is_sequence, is_steps, is_step, is_suffix, is_base, is_negation, is_members, Tree, whole, braces, no_items, items, a_line, an_option, some_groups, groups, no_unions, unions, ends, end_iri, end_literal, end_name, path, no_alternatives, alternatives, chain, no_steps, steps, forward, backward, once, repeated, predicate, other, brackets, one, several, no_members, members, spell}
use Rattle.grammar.specs.Machine.{Symbol, the, a, parts, Config, at, lead, move, run}
use Rattle.grammar.proofs.Moves.{same_is, says_is}

-- bytes for a word, a tree for a kind
abbrev pub Part : Symbol → Type 0
Part (the t) = List ℕ
Part (a k) = Tree k

abbrev pub Trees : List Symbol → Type 0
Trees [] = Unit {0}
Trees (s ∷ σ) = Part s × Trees σ

-- the words of trees, and then w
abbrev pub spell_all : (σ : List Symbol) → Trees σ → List Word → List Word
spell_all [] ts w = w
spell_all (the t ∷ σ) ts w = saying t ts.0 ∷ spell_all σ ts.1 w
spell_all (a k ∷ σ) ts w = spell ts.0 (spell_all σ ts.1 w)

-- ---- some trees for each stack

an_iri : Tree is_end
an_iri = end_iri []

a_sequence : Tree is_sequence
a_sequence = chain (forward (predicate []) once) no_steps

a_path : Tree is_path
a_path = path a_sequence no_alternatives

a_group : Tree is_group
a_group = braces no_items

some_tree : (k : Kind) → Tree k
some_tree is_question = whole a_group
some_tree is_group = a_group
some_tree is_items = no_items
some_tree is_item = an_option a_group
some_tree is_groups = groups a_group no_unions
some_tree is_unions = no_unions
some_tree is_line = ends an_iri a_path an_iri
some_tree is_end = an_iri
some_tree is_path = a_path
some_tree is_alternatives = no_alternatives
some_tree is_sequence = a_sequence
some_tree is_steps = no_steps
some_tree is_step = forward (predicate []) once
some_tree is_suffix = once
some_tree is_base = predicate []
some_tree is_negation = one []
some_tree is_members = no_members

pub some_trees : (σ : List Symbol) → Trees σ
some_trees [] = tt
some_trees (the t ∷ σ) = ([], some_trees σ)
some_trees (a k ∷ σ) = (some_tree k, some_trees σ)

-- ---- every way to take a kind apart is a rule

abbrev Makes : Kind → List Symbol → Type 0
Makes k ps = (ts : Trees ps) → (t : Tree k) × ((w : List Word) → spell t w ≡ spell_all ps ts w)

either : {k : Kind} (b : Bool) (ps qs : List Symbol) → Makes k ps → Makes k qs → Makes k (cond b ps qs)
either true ps qs f g = f
either false ps qs f g = g

makes : (k : Kind) (s : Token) → Makes k (parts k s)
makes is_question s = λ ts. (whole ts.0, λ w. refl)
makes is_group s = λ ts. (braces ts.1.0, λ w. refl)
makes is_items s =
    let more : Makes is_items (a is_item ∷ a is_items ∷ []) = λ ts. (items ts.0 ts.1.0, λ w. refl) in
    either (same s Iri) _ _ more (either (same s Literal) _ _ more (either (same s Variable) _ _ more
    (either (same s Optional) _ _ more (either (same s OpenBrace) _ _ more (λ ts. (no_items, λ w. refl))))))
makes is_item s =
    either (same s Optional) _ _ (λ ts. (an_option ts.1.0, λ w. refl))
    (either (same s OpenBrace) _ _ (λ ts. (some_groups ts.0, λ w. refl)) (λ ts. (a_line ts.0, λ w. refl)))
makes is_groups s = λ ts. (groups ts.0 ts.1.0, λ w. refl)
makes is_unions s = either (same s Union) _ _ (λ ts. (unions ts.1.0 ts.1.1.0, λ w. refl)) (λ ts. (no_unions, λ w. refl))
makes is_line s = λ ts. (ends ts.0 ts.1.0 ts.1.1.0, λ w. refl)
makes is_end s =
    either (same s Iri) _ _ (λ ts. (end_iri ts.0, λ w. refl))
    (either (same s Literal) _ _ (λ ts. (end_literal ts.0, λ w. refl)) (λ ts. (end_name ts.0, λ w. refl)))
makes is_path s = λ ts. (path ts.0 ts.1.0, λ w. refl)
makes is_alternatives s = either (same s Bar) _ _ (λ ts. (alternatives ts.1.0 ts.1.1.0, λ w. refl)) (λ ts. (no_alternatives, λ w. refl))
makes is_sequence s = λ ts. (chain ts.0 ts.1.0, λ w. refl)
makes is_steps s = either (same s Slash) _ _ (λ ts. (steps ts.1.0 ts.1.1.0, λ w. refl)) (λ ts. (no_steps, λ w. refl))
makes is_step s = either (same s Caret) _ _ (λ ts. (backward ts.1.0 ts.1.1.0, λ w. refl)) (λ ts. (forward ts.0 ts.1.0, λ w. refl))
makes is_suffix s = either (same s Star) _ _ (λ ts. (repeated, λ w. refl)) (λ ts. (once, λ w. refl))
makes is_base s =
    either (same s Bang) _ _ (λ ts. (other ts.1.0, λ w. refl))
    (either (same s OpenParen) _ _ (λ ts. (brackets ts.1.0, λ w. refl)) (λ ts. (predicate ts.0, λ w. refl)))
makes is_negation s = either (same s OpenParen) _ _ (λ ts. (several ts.1.0 ts.1.1.0, λ w. refl)) (λ ts. (one ts.0, λ w. refl))
makes is_members s = either (same s Bar) _ _ (λ ts. (members ts.1.0 ts.1.1.0, λ w. refl)) (λ ts. (no_members, λ w. refl))

-- ---- what a run says of where it began

-- any trees for the stack at the end give trees for the stack at the beginning
abbrev pub Passed : List Symbol → List Word → Config → Type 0
Passed σ u (at τ z) = (v : List Word) × (u ≡ v ++ z) × ((ts : Trees τ) → (us : Trees σ) × ((w : List Word) → v ++ spell_all τ ts w ≡ spell_all σ us w))

-- trees of two stacks, one on the other
halves : (ps σ : List Symbol) (ts : Trees (ps ++ σ)) → (ls : Trees ps) × (rs : Trees σ) × ((w : List Word) → spell_all (ps ++ σ) ts w ≡ spell_all ps ls (spell_all σ rs w))
halves [] σ ts = (tt, ts, λ w. refl)
halves (the t ∷ ps) σ ts =
    let h = halves ps σ ts.1 in
    ((ts.0, h.0), h.1, λ w. ap (λ l. saying t ts.0 ∷ l) (h.2 w))
halves (a k ∷ ps) σ ts =
    let h = halves ps σ ts.1 in
    ((ts.0, h.0), h.1, λ w. ap (spell ts.0) (h.2 w))

opened : (k : Kind) (s : Token) (σ : List Symbol) (u : List Word) (c : Config) → Passed (parts k s ++ σ) u c → Passed (a k ∷ σ) u c
opened k s σ u (at τ z) p = (
  p.0,
  p.1,
  λ ts.
      let us = p.2 ts in
      let h = halves (parts k s) σ us.0 in
      let m = makes k s h.0 in
      ((m.0, h.1), λ w. us.1 w ∙ h.2 w ∙ sym (m.1 (spell_all σ h.1 w))),
)

taken : (t : Token) (σ : List Symbol) (x : Word) (u : List Word) (c : Config) → same t (sort x) ≡ true → Passed σ u c → Passed (the t ∷ σ) (x ∷ u) c
taken t σ x u (at τ z) e p =
    let is : saying t (content x) ≡ x = ap (λ s. saying s (content x)) (same_is t (sort x) e) ∙ says_is x in (
      x ∷ p.0,
      ap (λ l. x ∷ l) p.1,
      λ ts.
          let us = p.2 ts in
          ((content x, us.0), λ w. ap (λ l. x ∷ l) (us.1 w) ∙ ap (λ y. y ∷ spell_all σ us.0 w) (sym is)),
    )

pub passed : (n : ℕ) (σ : List Symbol) (u : List Word) → Passed σ u (run n (at σ u))
unfolding run move
passed zero σ u = ([], refl, λ ts. (ts, λ w. refl))
passed (suc n) [] u = passed n [] u
passed (suc n) (the t ∷ σ) [] = passed n (the t ∷ σ) []
passed (suc n) (the t ∷ σ) (x ∷ u) = go (same t (sort x)) refl (passed n σ u) (passed n (the t ∷ σ) (x ∷ u))
  where
    go : (b : Bool) → same t (sort x) ≡ b → Passed σ u (run n (at σ u)) → Passed (the t ∷ σ) (x ∷ u) (run n (at (the t ∷ σ) (x ∷ u))) → Passed (the t ∷ σ) (x ∷ u) (run n (cond b (at σ u) (at (the t ∷ σ) (x ∷ u))))
    go true e p q = taken t σ x u (run n (at σ u)) e p
    go false e p q = q
passed (suc n) (a k ∷ σ) u = opened k (lead u) σ u _ (passed n (parts k (lead u) ++ σ) u)
