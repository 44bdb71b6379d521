-- What the reader of a pattern answers, from what its parts answered.
use Rattle.std.proofs.Common.{◌≡◌, ℕ, ◌+◌, ◌≤◌, Bool, true, false, cond, ◌||◌, List, [], ◌∷◌, Some, None, Option, sym, refl, ap, ◌∙◌, subst, arith}
use Rattle.tokens.specs.declared.token.Token.{Token}
use Rattle.tokens.specs.declared.token.Token.TheVariants.{Iri, Literal, Variable, OpenBrace, CloseBrace, Dot, Optional}
use Rattle.tokens.specs.Words.{Word, content, saying, same}
use Rattle.grammar.specs.declared.refusal.Fault.{Fault}
use Rattle.grammar.specs.Syntax.{nodes, constant, variable, empty}
use Rattle.grammar.specs.Grammar.{Kind, is_group, is_items, is_item, is_groups, is_line, is_end, is_path, Tree, braces, no_items, items, a_line, an_option, some_groups, ends, end_iri, end_literal, end_name, spell, means, joined, or_empty, Patterns, iri_term, literal_term}
use Rattle.grammar.specs.Reading.{words}
use Rattle.grammar.specs.Machine.{Symbol, the, a, parts, lead}
use Rattle.question.specs.declared.node.End.{End}
use Rattle.question.specs.declared.node.Variable.{Variable as Var}
use Rattle.question.specs.declared.node.End.TheVariants as end
use Rattle.question.specs.declared.node.PatternNode.TheVariants as node
use Rattle.question.specs.Views.{View, Went, Counted, Failed, HeldPattern}
use Rattle.question.specs.Outcomes.{Took, Read, ReadEnd, ReadItem, ReadItems, HeldLeft, Alike, left_nodes, PlacedPattern, Emptied, Joined, begins_item}
use Rattle.question.proofs.Counts.{counted_idle, counted_then, counted_beside, counted_as, counted_both}
use Rattle.question.proofs.Going.{idle_stay, idle_then, went_stay, went_then, went_on, went_open, went_into, failed_in}
use Rattle.question.proofs.Holding.{Onward, onward_then, path_stays, pattern_stays, end_stays}
use Rattle.question.proofs.Placing.{went_pattern, empty_placed, line_placed, and_placed, opt_placed}
use Rattle.question.proofs.PathParts.{this_way, other_way, took_reads, took_number, took_onward, read_onward, counted_after, counted_before, PathDone}

abbrev pub PatternDone : (k : Kind) → (Tree k → Patterns) → View → View → ℕ → Type 0
PatternDone k of p q i = Read k of nodes HeldPattern p q i

-- ---- an end

abbrev variable_parts : List Symbol
variable_parts = the Variable ∷ []

abbrev literal_parts : Token → List Symbol
literal_parts s = cond (same s Literal) (the Literal ∷ []) variable_parts

module _ {p : View} where
  opened_iri : lead (words p.spots) ≡ Iri → Went (a is_end ∷ []) (the Iri ∷ []) p p
  opened_iri e = went_open is_end (the Iri ∷ []) p (this_way (the Iri ∷ []) (literal_parts (lead (words p.spots))) e)

  opened_literal : lead (words p.spots) ≡ Literal → Went (a is_end ∷ []) (the Literal ∷ []) p p
  opened_literal e = went_open is_end (the Literal ∷ []) p (ap (λ s. cond (same s Iri) (the Iri ∷ []) (literal_parts s)) e)

  module _ (m : lead (words p.spots) ≡ Iri → ⊥) (n : lead (words p.spots) ≡ Literal → ⊥) where
    opened_variable : Went (a is_end ∷ []) (the Variable ∷ []) p p
    opened_variable = went_open is_end (the Variable ∷ []) p (other_way (the Iri ∷ []) (literal_parts (lead (words p.spots))) m ∙ other_way (the Literal ∷ []) variable_parts n)

    pub variable_fails : {f : Fault} → Failed (the Variable) p f → Failed (a is_end) p f
    variable_fails h = failed_in opened_variable h

    pub variable_read : {q : View} {v : Var} → Took Variable p q v.number → ReadEnd p q (end.Variable v)
    variable_read {q} {v} h = record {
      tree = end_name (content h.word);
      reads = took_reads h;
      went = went_on opened_variable h.went;
      idle = h.idle;
      held = record { stands = λ e s. ap variable (s.names v.number (content h.word) (took_number h)) };
      terms = omega arith;
      names = omega (arith, (took_number h).within);
    }

  pub iri_fails : {f : Fault} → lead (words p.spots) ≡ Iri → Failed (the Iri) p f → Failed (a is_end) p f
  iri_fails e h = failed_in (opened_iri e) h

  pub iri_read : {q : View} {i : ℕ} → lead (words p.spots) ≡ Iri → Took Iri p q i → ReadEnd p q (end.Term i)
  iri_read {q} {i} e h = record {
    tree = end_iri (content h.word);
    reads = took_reads h;
    went = went_on (opened_iri e) h.went;
    idle = h.idle;
    held = record { stands = λ e s. ap constant (s.terms i (iri_term (content h.word)) (took_number h)) };
    terms = omega (arith, (took_number h).within);
    names = omega arith;
  }

  pub literal_fails : {f : Fault} → lead (words p.spots) ≡ Literal → Failed (the Literal) p f → Failed (a is_end) p f
  literal_fails e h = failed_in (opened_literal e) h

  pub literal_read : {q : View} {i : ℕ} → lead (words p.spots) ≡ Literal → Took Literal p q i → ReadEnd p q (end.Term i)
  literal_read {q} {i} e h = record {
    tree = end_literal (content h.word);
    reads = took_reads h;
    went = went_on (opened_literal e) h.went;
    idle = h.idle;
    held = record { stands = λ e s. ap constant (s.terms i (literal_term (content h.word)) (took_number h)) };
    terms = omega (arith, (took_number h).within);
    names = omega arith;
  }

-- ---- a line

module _ {p : View} where
  opened_line : Went (a is_line ∷ []) (a is_end ∷ a is_path ∷ a is_end ∷ the Dot ∷ []) p p
  opened_line = went_open is_line (a is_end ∷ a is_path ∷ a is_end ∷ the Dot ∷ []) p refl

  pub line_first : {f : Fault} → Failed (a is_end) p f → Failed (a is_line) p f
  line_first h = failed_in opened_line h

  module _ {q : View} {x : End ℕ} (s : ReadEnd p q x) where
    pub line_path : {f : Fault} → Failed (a is_path) q f → Failed (a is_line) p f
    line_path h = failed_in (went_on opened_line s.went) h

    module _ {r : View} {l : ℕ} (t : PathDone is_path (λ t. means t) q r l) where
      pub line_second : {f : Fault} → Failed (a is_end) r f → Failed (a is_line) p f
      line_second h = failed_in (went_on (went_on opened_line s.went) t.went) h

      module _ {u : View} {y : End ℕ} (o : ReadEnd r u y) where
        pub line_dot : {f : Fault} → Failed (the Dot) u f → Failed (a is_line) p f
        line_dot h = failed_in (went_on (went_on (went_on opened_line s.went) t.went) o.went) h

        pub line_read : {v w : View} {n i : ℕ} → Took Dot u v n → PlacedPattern v w (node.Line (record { subject = x; path = l; object = y })) 1 i → PatternDone is_line (λ t. means t) p w i
        line_read {v} {w} d z = record {
          tree = ends s.tree t.tree o.tree;
          reads = s.reads ∙ ap (spell s.tree) (t.reads ∙ ap (spell t.tree) (o.reads ∙ ap (spell o.tree) (took_reads d ∙ ap (λ k. saying Dot [] ∷ words k) (sym z.placed.spots))));
          went = went_then (went_on (went_on (went_on (went_on opened_line s.went) t.went) o.went) d.went) (went_pattern z []);
          counted = counted_after s.idle (counted_both t.counted (counted_after (idle_then o.idle d.idle) z.placed.counted) (λ f. o.went.kept.free (d.went.kept.free (z.placed.free f))));
          held = λ f.
              let fv = z.placed.free f in
              let fu = d.went.kept.free fv in
              let fr = o.went.kept.free fu in
              let late = onward_then (read_onward o.went fu) (took_onward d fv) in
              line_placed z (end_stays (onward_then (read_onward t.went fr) late) s.held) (path_stays late (t.held fr)) (end_stays (took_onward d fv) o.held) f;
        }

-- ---- the left of a group

same_went : {p q : View} (σ : List Symbol) → q ≡ p → Went σ σ p q
same_went {p} {q} σ e = subst (λ v. Went σ σ p v) (sym e) (went_stay σ p)

-- what was made of the left where an empty pattern may be wanted
pub record Filled (o : Option ℕ) (v : Option Patterns) (p q : View) (i : ℕ) : Type 0 where
  pub spots : q.spots ≡ p.spots
  pub went : (σ : List Symbol) → Went σ σ p q
  pub counted : Counted p q (left_nodes v) (nodes (or_empty v))
  pub larger : left_nodes v ≤ nodes (or_empty v)
  pub held : q.full ≡ false → HeldLeft p o v → HeldPattern q i (or_empty v)

pub filled : {p q : View} {i : ℕ} (o : Option ℕ) (v : Option Patterns) → Alike o v → Emptied o p q i → Filled o v p q i
filled None None h x = record { spots = x.placed.spots; went = went_pattern x; counted = x.placed.counted; larger = omega arith; held = λ f s. empty_placed x f }
filled None (Some v) h x = absurd h
filled (Some l) None h x = absurd h
filled {p} {q} {i} (Some l) (Some v) h x = record {
  spots = ap (λ k. k.spots) x.0;
  went = λ σ. same_went σ x.0;
  counted = subst (λ k. Counted p k (nodes v) (nodes v)) (sym x.0) (counted_idle (idle_stay p) (nodes v));
  larger = omega arith;
  held = λ f s. subst (λ k. HeldPattern k i v) (sym x.0) (subst (λ j. HeldPattern p j v) (sym x.1) s);
}

-- what was made of the left and something to the right of it
pub record Combined (left : Option ℕ) (right : ℕ) (p q : View) (i : ℕ) : Type 0 where
  pub spots : q.spots ≡ p.spots
  pub went : (σ : List Symbol) → Went σ σ p q
  pub counted : (l : Option Patterns) → Alike left l → (y : Patterns) → Counted p q (left_nodes l + nodes y) (nodes (joined l y))
  pub held : q.full ≡ false → (l : Option Patterns) → HeldLeft p left l → (y : Patterns) → HeldPattern p right y → HeldPattern q i (joined l y)

alone : {p q : View} → q ≡ p → (l : Option Patterns) → Alike None l → (y : Patterns) → Counted p q (left_nodes l + nodes y) (nodes (joined l y))
alone {p} {q} e None h y = subst (λ k. Counted p k (0 + nodes y) (nodes y)) (sym e) (counted_as (omega arith) refl (counted_idle (idle_stay p) (nodes y)))
alone e (Some l) h y = absurd h

alone_held : {p q : View} {r i : ℕ} → q ≡ p → i ≡ r → (l : Option Patterns) → HeldLeft p None l → (y : Patterns) → HeldPattern p r y → HeldPattern q i (joined l y)
alone_held {p} {q} {r} {i} e at None h y s = subst (λ k. HeldPattern k i y) (sym e) (subst (λ j. HeldPattern p j y) (sym at) s)
alone_held e at (Some l) h y s = absurd h

beside : {p q : View} {l r i : ℕ} → PlacedPattern p q (node.And l r) 1 i → (v : Option Patterns) → Alike (Some l) v → (y : Patterns) → Counted p q (left_nodes v + nodes y) (nodes (joined v y))
beside x None h y = absurd h
beside x (Some v) h y = counted_as (omega arith) refl (counted_beside (nodes v + nodes y) x.placed.counted)

beside_held : {p q : View} {l r i : ℕ} → PlacedPattern p q (node.And l r) 1 i → q.full ≡ false → (v : Option Patterns) → HeldLeft p (Some l) v → (y : Patterns) → HeldPattern p r y → HeldPattern q i (joined v y)
beside_held x f None h y s = absurd h
beside_held x f (Some v) h y s = and_placed x h s f

pub combined : {p q : View} {i : ℕ} (left : Option ℕ) (right : ℕ) → Joined left right p q i → Combined left right p q i
combined None right x = record { spots = ap (λ k. k.spots) x.0; went = λ σ. same_went σ x.0; counted = alone x.0; held = λ f. alone_held x.0 x.1 }
combined (Some l) right x = record { spots = x.placed.spots; went = went_pattern x; counted = beside x; held = beside_held x }

alike : (p : View) (o : Option ℕ) (v : Option Patterns) → HeldLeft p o v → Alike o v
alike p None None h = tt
alike p None (Some v) h = h
alike p (Some l) None h = h
alike p (Some l) (Some v) h = tt

left_stays : {p q : View} → Onward p q → (o : Option ℕ) (v : Option Patterns) → HeldLeft p o v → HeldLeft q o v
left_stays g None None h = tt
left_stays g None (Some v) h = h
left_stays g (Some l) None h = h
left_stays g (Some l) (Some v) h = pattern_stays g h

some_left : (o : Option ℕ) → (v : Option Patterns) × Alike o v
some_left None = (None, tt)
some_left (Some i) = (Some empty, tt)

-- ---- an item

abbrev groups_parts : Token → List Symbol
groups_parts s = cond (same s OpenBrace) (a is_groups ∷ []) (a is_line ∷ [])

abbrev option_parts : List Symbol
option_parts = the Optional ∷ a is_group ∷ []

-- a line or a union: something is read, and then joined to the left
module _ {k : Kind} {of : Tree k → Patterns} {p q r : View} {j i : ℕ} (left : Option ℕ) (wrap : Tree k → Tree is_item)
    (spells : (t : Tree k) (w : List Word) → spell (wrap t) w ≡ spell t w) (joins : (t : Tree k) (l : Option Patterns) → means (wrap t) l ≡ joined l (of t))
    (opened : Went (a is_item ∷ []) (a k ∷ []) p p) (x : PatternDone k of p q j) (y : Combined left j q r i) where
  joined_item : ReadItem left p r i
  joined_item = record {
    tree = wrap x.tree;
    reads = x.reads ∙ ap (λ v. spell x.tree (words v)) (sym y.spots) ∙ sym (spells x.tree (words r.spots));
    went = went_then (went_on opened x.went) (y.went []);
    counted = λ l h. subst (λ v. Counted p r (left_nodes l) (nodes v)) (sym (joins x.tree l))
        (counted_then (counted_as (omega arith) refl (counted_beside (left_nodes l) x.counted)) (y.counted l h (of x.tree)) (y.went []).kept.free (bigger l (of x.tree)));
    held = λ f l h. subst (HeldPattern r i) (sym (joins x.tree l))
        (let g = (y.went []).kept.free f in y.held f l (left_stays (read_onward x.went g) left l h) (of x.tree) (x.held g));
  }
    where
      bigger : (l : Option Patterns) (v : Patterns) → left_nodes l + nodes v ≤ nodes (joined l v)
      bigger None v = omega arith
      bigger (Some l) v = omega arith

module _ {p : View} where
  module _ (m : lead (words p.spots) ≡ Optional → ⊥) (n : lead (words p.spots) ≡ OpenBrace → ⊥) where
    opened_item_line : Went (a is_item ∷ []) (a is_line ∷ []) p p
    opened_item_line = went_open is_item (a is_line ∷ []) p (other_way option_parts (groups_parts (lead (words p.spots))) m ∙ other_way (a is_groups ∷ []) (a is_line ∷ []) n)

    pub item_line_fails : {f : Fault} → Failed (a is_line) p f → Failed (a is_item) p f
    item_line_fails h = failed_in opened_item_line h

    pub item_line : {q r : View} {left : Option ℕ} {j i : ℕ} → PatternDone is_line (λ t. means t) p q j → Combined left j q r i → ReadItem left p r i
    item_line {q} {r} {left} x y = joined_item left a_line (λ t w. refl) (λ t l. refl) opened_item_line x y

  module _ (e : lead (words p.spots) ≡ OpenBrace) where
    opened_item_groups : Went (a is_item ∷ []) (a is_groups ∷ []) p p
    opened_item_groups = went_open is_item (a is_groups ∷ []) p (ap (λ s. cond (same s Optional) option_parts (groups_parts s)) e)

    pub item_groups_fails : {f : Fault} → Failed (a is_groups) p f → Failed (a is_item) p f
    item_groups_fails h = failed_in opened_item_groups h

    pub item_groups : {q r : View} {left : Option ℕ} {j i : ℕ} → PatternDone is_groups (λ t. means t) p q j → Combined left j q r i → ReadItem left p r i
    item_groups {q} {r} {left} x y = joined_item left some_groups (λ t w. refl) (λ t l. refl) opened_item_groups x y

  module _ (e : lead (words p.spots) ≡ Optional) where
    opened_item_option : Went (a is_item ∷ []) (the Optional ∷ a is_group ∷ []) p p
    opened_item_option = went_open is_item (the Optional ∷ a is_group ∷ []) p (this_way option_parts (groups_parts (lead (words p.spots))) e)

    pub option_sign : {f : Fault} → Failed (the Optional) p f → Failed (a is_item) p f
    option_sign h = failed_in opened_item_option h

    module _ {q r : View} {n : ℕ} (left : Option ℕ) (l : ℕ) (h : Took Optional p q n) (x : Emptied left q r l) where
      -- whatever stands to the left, nothing more was read for it
      over : (v : Option Patterns) → Alike left v → Went (a is_item ∷ []) (a is_group ∷ []) p r
      over v k = went_then (went_on opened_item_option h.went) ((filled left v k x).went (a is_group ∷ []))

      began : Went (a is_item ∷ []) (a is_group ∷ []) p r
      began = let v = some_left left in over v.0 v.1

      pub option_fails : {f : Fault} → Failed (a is_group) r f → Failed (a is_item) p f
      option_fails z = failed_in began z

      pub option_read : {s t : View} {j i : ℕ} → PatternDone is_group (λ t. means t) r s j → PlacedPattern s t (node.Opt l j) 1 i → ReadItem left p t i
      option_read {s} {t} z y =
          let some = some_left left in
          let same = (filled left some.0 some.1 x).spots in
          record {
            tree = an_option z.tree;
            reads = took_reads h ∙ ap (λ k. saying Optional [] ∷ words k) (sym same) ∙ ap (λ k. saying Optional [] ∷ k) (z.reads ∙ ap (λ k. spell z.tree (words k)) (sym y.placed.spots));
            went = went_then (went_on began z.went) (went_pattern y []);
            counted = λ v k.
                let g = filled left v k x in
                counted_after h.idle (counted_then g.counted
                (counted_as (omega arith) (omega arith) (counted_beside (nodes (or_empty v)) (counted_both z.counted y.placed.counted y.placed.free)))
                (λ f. z.went.kept.free (y.placed.free f)) (omega arith));
            held = λ f v k.
                let g = filled left v (alike p left v k) x in
                let fs = y.placed.free f in
                let fr = z.went.kept.free fs in
                opt_placed y (pattern_stays (read_onward z.went fs) (g.held fr (left_stays (took_onward h ((g.went []).kept.free fr)) left v k))) (z.held fs) f;
          }

-- ---- the items of a group

five : {X : Type 0} (x y : X) (b c d e f : Bool) → cond b x (cond c x (cond d x (cond e x (cond f x y)))) ≡ cond (b || c || d || e || f) x y
five x y true c d e f = refl
five x y false true d e f = refl
five x y false false true e f = refl
five x y false false false true f = refl
five x y false false false false f = refl

items_parts : (s : Token) (b : Bool) → begins_item s ≡ b → parts is_items s ≡ cond b (a is_item ∷ a is_items ∷ []) []
items_parts s b e =
    five (a is_item ∷ a is_items ∷ []) [] (same s Iri) (same s Literal) (same s Variable) (same s Optional) (same s OpenBrace)
    ∙ ap (λ v. cond v (a is_item ∷ a is_items ∷ []) []) e

pub record ItemsSofar (p q : View) (left : Option ℕ) : Type 0 where
  pub value : Option Patterns
  pub went : Went (a is_items ∷ []) (a is_items ∷ []) p q
  pub goes : (t : Tree is_items) (w : List Word) → words q.spots ≡ spell t w → (u : Tree is_items) × (words p.spots ≡ spell u w) × (means u None ≡ means t value)
  pub alike : Alike left value
  pub counted : Counted p q 0 (left_nodes value)
  pub held : q.full ≡ false → HeldLeft q left value

pub items_begun : (p : View) → ItemsSofar p p None
items_begun p = record { value = None; went = went_stay (a is_items ∷ []) p; goes = λ t w e. (t, e, refl); alike = tt; counted = counted_idle (idle_stay p) 0; held = λ f. tt }

item_larger : (t : Tree is_item) (l : Option Patterns) → left_nodes l ≤ nodes (means t l)
item_larger (a_line p) None = omega arith
item_larger (a_line p) (Some l) = omega arith
item_larger (an_option g) None = omega arith
item_larger (an_option g) (Some l) = omega arith
item_larger (some_groups g) None = omega arith
item_larger (some_groups g) (Some l) = omega arith

module _ {p q : View} {left : Option ℕ} (x : ItemsSofar p q left) where
  module _ (e : begins_item (lead (words q.spots)) ≡ true) where
    onto : Went (a is_items ∷ []) (a is_item ∷ a is_items ∷ []) p q
    onto = went_into is_items (a is_item ∷ a is_items ∷ []) x.went (items_parts (lead (words q.spots)) true e)

    pub item_fails : {f : Fault} → Failed (a is_item) q f → Failed (a is_items) p f
    item_fails h = failed_in onto h

    pub items_more : {r : View} {i : ℕ} → ReadItem left q r i → ItemsSofar p r (Some i)
    items_more {r} h = record {
      value = Some (means h.tree x.value);
      went = went_on onto h.went;
      goes = λ t w e. x.goes (items h.tree t) w (h.reads ∙ ap (spell h.tree) e);
      alike = tt;
      counted = counted_then x.counted (h.counted x.value x.alike) h.went.kept.free (item_larger h.tree x.value);
      held = λ f. h.held f x.value (x.held (h.went.kept.free f));
    }

  pub items_read : begins_item (lead (words q.spots)) ≡ false → ReadItems p q left
  items_read e =
      let g = x.goes no_items (words q.spots) refl in
      record {
        tree = g.0;
        reads = g.1;
        went = went_into is_items [] x.went (items_parts (lead (words q.spots)) false e);
        alike = subst (Alike left) (sym g.2) x.alike;
        counted = subst (λ v. Counted p q 0 (left_nodes v)) (sym g.2) x.counted;
        held = λ f. subst (HeldLeft q left) (sym g.2) (x.held f);
      }

-- ---- a group

module _ {p : View} where
  opened_group : Went (a is_group ∷ []) (the OpenBrace ∷ a is_items ∷ the CloseBrace ∷ []) p p
  opened_group = went_open is_group (the OpenBrace ∷ a is_items ∷ the CloseBrace ∷ []) p refl

  pub group_sign : {f : Fault} → Failed (the OpenBrace) p f → Failed (a is_group) p f
  group_sign h = failed_in opened_group h

  module _ {q : View} {n : ℕ} (h : Took OpenBrace p q n) where
    pub group_inner : {f : Fault} → Failed (a is_items) q f → Failed (a is_group) p f
    group_inner x = failed_in (went_on opened_group h.went) x

    module _ {r : View} {o : Option ℕ} (x : ReadItems q r o) where
      pub group_close : {f : Fault} → Failed (the CloseBrace) r f → Failed (a is_group) p f
      group_close y = failed_in (went_on (went_on opened_group h.went) x.went) y

      pub group_read : {s t : View} {m i : ℕ} → Took CloseBrace r s m → Emptied o s t i → PatternDone is_group (λ t. means t) p t i
      group_read {s} {t} y z =
          let v = means x.tree None in
          let g = filled o v x.alike z in
          record {
            tree = braces x.tree;
            reads = took_reads h ∙ ap (λ k. saying OpenBrace [] ∷ k) (x.reads ∙ ap (spell x.tree) (took_reads y ∙ ap (λ k. saying CloseBrace [] ∷ words k) (sym g.spots)));
            went = went_then (went_on (went_on (went_on opened_group h.went) x.went) y.went) (g.went []);
            counted = counted_then (counted_before (counted_after h.idle x.counted) y.idle) g.counted (g.went []).kept.free g.larger;
            held = λ f.
                let fs = (g.went []).kept.free f in
                g.held f (left_stays (took_onward y fs) o v (x.held (y.went.kept.free fs)));
          }
