-- Chains of parts with a sign between them, which group from the left: what their loops keep.
use Rattle.std.proofs.Common.{◌≡◌, ℕ, ◌+◌, false, List, [], ◌∷◌, sym, refl, ap, ◌∙◌, subst, arith}
use Rattle.tokens.specs.declared.token.Token.{Token}
use Rattle.tokens.specs.declared.token.Token.TheVariants.{Bar, Slash, Union}
use Rattle.tokens.specs.Words.{Word, content, saying}
use Rattle.grammar.specs.declared.refusal.Fault.{Fault}
use Rattle.grammar.specs.Syntax.{path_nodes, nodes, sequence, alternative, union}
use Rattle.grammar.specs.Grammar.{Kind, is_path, is_alternatives, is_sequence, is_steps, is_step, is_groups, is_group, is_unions, Tree, path, no_alternatives, alternatives, chain, no_steps, steps, groups, no_unions, unions, spell, means, Paths, Patterns}
use Rattle.grammar.specs.Reading.{words}
use Rattle.grammar.specs.Machine.{Symbol, the, a, parts, lead}
use Rattle.question.specs.Views.{View, Went, Counted, Failed}
use Rattle.question.specs.Outcomes.{Took, Read, Placed}
use Rattle.question.proofs.Counts.{counted_then, counted_beside, counted_as, counted_both}
use Rattle.question.proofs.Going.{went_then, went_on, went_open, went_into, failed_in}
use Rattle.question.proofs.PathParts.{this_way, other_way, took_reads, counted_after}

-- a kind that is a part and then more of them, each behind a sign
pub record Chained (X : Type 0) (k part tail : Kind) (sign : Token) : Type 0 where
  pub whole : Tree k → X
  pub of : Tree part → X
  pub rest : Tree tail → X → X
  pub join : Tree part → Tree tail → Tree k
  pub more : Tree part → Tree tail → Tree tail
  pub none : Tree tail
  pub op : X → X → X
  pub size : X → ℕ
  pub opens : (s : Token) → parts k s ≡ a part ∷ a tail ∷ []
  pub goes : (s : Token) → s ≡ sign → parts tail s ≡ the sign ∷ a part ∷ a tail ∷ []
  pub ends : (s : Token) → (s ≡ sign → ⊥) → parts tail s ≡ []
  pub bare : (x : List ℕ) → saying sign x ≡ saying sign []
  pub join_spells : (s : Tree part) (t : Tree tail) (w : List Word) → spell (join s t) w ≡ spell s (spell t w)
  pub more_spells : (s : Tree part) (t : Tree tail) (w : List Word) → spell (more s t) w ≡ saying sign [] ∷ spell s (spell t w)
  pub none_spells : (w : List Word) → spell none w ≡ w
  pub join_means : (s : Tree part) (t : Tree tail) → whole (join s t) ≡ rest t (of s)
  pub more_means : (s : Tree part) (t : Tree tail) (x : X) → rest (more s t) x ≡ rest t (op x (of s))
  pub none_means : (x : X) → rest none x ≡ x
  pub grows : (x y : X) → size (op x y) ≡ size x + size y + 1

-- what was read so far; whatever follows it goes on the chain from its start
pub record Sofar {X : Type 0} {k part tail : Kind} {sign : Token} (c : Chained X k part tail sign) (Held : View → ℕ → X → Type 0) (p q : View) (i : ℕ) : Type 0 where
  pub value : X
  pub went : Went (a k ∷ []) (a tail ∷ []) p q
  pub goes : (t : Tree tail) (w : List Word) → words q.spots ≡ spell t w → (u : Tree k) × (words p.spots ≡ spell u w) × (c.whole u ≡ c.rest t value)
  pub counted : Counted p q 0 (c.size value)
  pub held : q.full ≡ false → Held q i value

module _ {X : Type 0} {k part tail : Kind} {sign : Token} (c : Chained X k part tail sign) where
  opened : (p : View) → Went (a k ∷ []) (a part ∷ a tail ∷ []) p p
  opened p = went_open k (a part ∷ a tail ∷ []) p (c.opens (lead (words p.spots)))

  pub first_fails : {p : View} {f : Fault} → Failed (a part) p f → Failed (a k) p f
  first_fails {p} h = failed_in (opened p) h

module _ {X : Type 0} {k part tail : Kind} {sign : Token} (c : Chained X k part tail sign) {Held : View → ℕ → X → Type 0} where
  pub begun : {p q : View} {i : ℕ} → Read part c.of c.size Held p q i → Sofar c Held p q i
  begun {p} {q} h = record {
    value = c.of h.tree;
    went = went_on (opened c p) h.went;
    goes = λ t w e. (c.join h.tree t, h.reads ∙ ap (spell h.tree) e ∙ sym (c.join_spells h.tree t w), c.join_means h.tree t);
    counted = h.counted;
    held = h.held;
  }

  module _ {p q : View} {i : ℕ} (x : Sofar c Held p q i) where
    pub ended : (lead (words q.spots) ≡ sign → ⊥) → Read k c.whole c.size Held p q i
    ended n =
        let g = x.goes c.none (words q.spots) (sym (c.none_spells (words q.spots))) in
        let is = g.2 ∙ c.none_means x.value in
        record {
          tree = g.0;
          reads = g.1;
          went = went_into tail [] x.went (c.ends (lead (words q.spots)) n);
          counted = subst (λ v. Counted p q 0 (c.size v)) (sym is) x.counted;
          held = λ f. subst (Held q i) (sym is) (x.held f);
        }

    module _ (e : lead (words q.spots) ≡ sign) where
      onto : Went (a k ∷ []) (the sign ∷ a part ∷ a tail ∷ []) p q
      onto = went_into tail (the sign ∷ a part ∷ a tail ∷ []) x.went (c.goes (lead (words q.spots)) e)

      pub sign_fails : {f : Fault} → Failed (the sign) q f → Failed (a k) p f
      sign_fails h = failed_in onto h

      module _ {r : View} {n : ℕ} (h : Took sign q r n) where
        pub part_fails : {f : Fault} → Failed (a part) r f → Failed (a k) p f
        part_fails y = failed_in (went_on onto h.went) y

        -- one part more, and the node over it and all before it
        pub another : {s t : View} {j m : ℕ} (y : Read part c.of c.size Held r s j) → Placed s t 1 → ((σ : List Symbol) → Went σ σ s t) → (t.full ≡ false → (u v : X) → Held q i u → Held s j v → Held t m (c.op u v)) → Sofar c Held p t m
        another {s} {t} y z over held =
            let v = c.of y.tree in
            record {
              value = c.op x.value v;
              went = went_then (went_on (went_on onto h.went) y.went) (over (a tail ∷ []));
              goes = λ u w e.
                  let reads = took_reads h ∙ ap (λ b. b ∷ words r.spots) (c.bare (content h.word))
                  ∙ ap (λ l. saying sign [] ∷ l) (y.reads ∙ ap (spell y.tree) (sym (ap words z.spots) ∙ e)) ∙ sym (c.more_spells y.tree u w) in
                  let g = x.goes (c.more y.tree u) w reads in
                  (g.0, g.1, g.2 ∙ c.more_means y.tree u x.value);
              counted =
                  let after = counted_after h.idle (counted_both y.counted z.counted z.free) in
                  counted_then x.counted (counted_as (omega arith) (omega (arith, c.grows x.value v)) (counted_beside (c.size x.value) after))
                  (λ f. sym h.idle.full ∙ y.went.kept.free (z.free f)) (omega (arith, c.grows x.value v));
              held = λ f.
                  let g = z.free f in
                  held f x.value v (x.held (sym h.idle.full ∙ y.went.kept.free g)) (y.held g);
            }

-- ---- the three chains

abbrev pub alternating : Chained Paths is_path is_sequence is_alternatives Bar
alternating = record {
  whole = λ t. means t;
  of = λ t. means t;
  rest = λ t. means t;
  join = path;
  more = alternatives;
  none = no_alternatives;
  op = alternative;
  size = path_nodes;
  opens = λ s. refl;
  goes = λ s e. this_way (the Bar ∷ a is_sequence ∷ a is_alternatives ∷ []) [] e;
  ends = λ s n. other_way (the Bar ∷ a is_sequence ∷ a is_alternatives ∷ []) [] n;
  bare = λ x. refl;
  join_spells = λ s t w. refl;
  more_spells = λ s t w. refl;
  none_spells = λ w. refl;
  join_means = λ s t. refl;
  more_means = λ s t x. refl;
  none_means = λ x. refl;
  grows = λ x y. refl;
}

abbrev pub stepping : Chained Paths is_sequence is_step is_steps Slash
stepping = record {
  whole = λ t. means t;
  of = λ t. means t;
  rest = λ t. means t;
  join = chain;
  more = steps;
  none = no_steps;
  op = sequence;
  size = path_nodes;
  opens = λ s. refl;
  goes = λ s e. this_way (the Slash ∷ a is_step ∷ a is_steps ∷ []) [] e;
  ends = λ s n. other_way (the Slash ∷ a is_step ∷ a is_steps ∷ []) [] n;
  bare = λ x. refl;
  join_spells = λ s t w. refl;
  more_spells = λ s t w. refl;
  none_spells = λ w. refl;
  join_means = λ s t. refl;
  more_means = λ s t x. refl;
  none_means = λ x. refl;
  grows = λ x y. refl;
}

abbrev pub uniting : Chained Patterns is_groups is_group is_unions Union
uniting = record {
  whole = λ t. means t;
  of = λ t. means t;
  rest = λ t. means t;
  join = groups;
  more = unions;
  none = no_unions;
  op = union;
  size = nodes;
  opens = λ s. refl;
  goes = λ s e. this_way (the Union ∷ a is_group ∷ a is_unions ∷ []) [] e;
  ends = λ s n. other_way (the Union ∷ a is_group ∷ a is_unions ∷ []) [] n;
  bare = λ x. refl;
  join_spells = λ s t w. refl;
  more_spells = λ s t w. refl;
  none_spells = λ w. refl;
  join_means = λ s t. refl;
  more_means = λ s t x. refl;
  none_means = λ x. refl;
  grows = λ x y. refl;
}
