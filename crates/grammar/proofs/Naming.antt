-- Every variable of a question is one of its names.
use Rattle.std.proofs.Common.{◌≡◌, List, [], length, Some, None, Option, sym, refl, ap, ◌∙◌, subst, ap₂, arith}
use Rattle.tokens.specs.Words.{Word}
use Rattle.tokens.specs.Lexed.{tokens}
use Rattle.grammar.specs.Syntax.{variable, line, and, union, opt}
use Rattle.grammar.specs.Grammar.{Kind, is_question, is_group, is_items, is_item, is_groups, is_unions, is_line, is_end, is_path, is_alternatives, is_sequence, is_steps, is_step, is_suffix, is_base, is_negation, is_members}
use Rattle.grammar.specs.Grammar.{Tree, whole, braces, no_items, items, a_line, an_option, some_groups, groups, no_unions, unions, ends, end_iri, end_literal, end_name, path, no_alternatives, alternatives, chain, no_steps, steps, forward, backward, once, repeated, predicate, other, brackets, one, several, no_members, members}
use Rattle.grammar.specs.Grammar.{spell, means, Meaning, Name, Ends, Patterns, joined, or_empty}
use Rattle.grammar.specs.Limits.{nothing, gather}
use Rattle.grammar.specs.Reading.{words}
use Rattle.grammar.specs.Numbered.{distinct, numbered_end, numbered, named_end, named, NumbersAreFaithful}
use Rattle.grammar.proofs.Numbering.{NamesIn, place_at, name_at_lem, gathered_distinct, gathered_few, gathered_all}

-- numbered and named again, a pattern is what it was
abbrev Kept : List Name → Patterns → Type 0
Kept ns p = named ns (numbered ns p) ≡ p

abbrev KeptEnd : List Name → Ends → Type 0
KeptEnd ns a = named_end ns (numbered_end ns a) ≡ a

abbrev KeptSome : List Name → Option Patterns → Type 0
KeptSome ns None = Unit {0}
KeptSome ns (Some p) = Kept ns p

abbrev Says : (k : Kind) → List Name → Meaning k → Type 0
Says is_question ns m = Kept ns m
Says is_group ns m = Kept ns m
Says is_items ns m = (l : Option Patterns) → KeptSome ns l → KeptSome ns (m l)
Says is_item ns m = (l : Option Patterns) → KeptSome ns l → Kept ns (m l)
Says is_groups ns m = Kept ns m
Says is_unions ns m = (l : Patterns) → Kept ns l → Kept ns (m l)
Says is_line ns m = Kept ns m
Says is_end ns m = KeptEnd ns m
Says is_path ns m = Unit {0}
Says is_alternatives ns m = Unit {0}
Says is_sequence ns m = Unit {0}
Says is_steps ns m = Unit {0}
Says is_step ns m = Unit {0}
Says is_suffix ns m = Unit {0}
Says is_base ns m = Unit {0}
Says is_negation ns m = Unit {0}
Says is_members ns m = Unit {0}

kept_or_empty : (ns : List Name) (l : Option Patterns) → KeptSome ns l → Kept ns (or_empty l)
kept_or_empty ns None k = refl
kept_or_empty ns (Some p) k = k

kept_joined : (ns : List Name) (l : Option Patterns) (p : Patterns) → KeptSome ns l → Kept ns p → Kept ns (joined l p)
kept_joined ns None p k h = h
kept_joined ns (Some l) p k h = ap₂ and k h

-- the names of a tree's words are known, and then so are the variables of what it means
covers : (ns : List Name) {k : Kind} (t : Tree k) (w : List Word) → NamesIn ns (spell t w) → Says k ns (means t) × NamesIn ns w
covers ns (whole g) w h = let a = covers ns g _ h in (a.0, a.1.1)
covers ns (braces is) w h = let a = covers ns is _ h.1 in (kept_or_empty ns (means is None) (a.0 None tt), a.1.1)
covers ns no_items w h = ((λ l k. k), h)
covers ns (items i is) w h = let a = covers ns i _ h in let b = covers ns is w a.1 in ((λ l k. b.0 (Some (means i l)) (a.0 l k)), b.1)
covers ns (a_line p) w h = let a = covers ns p w h in ((λ l k. kept_joined ns l (means p) k a.0), a.1)
covers ns (an_option g) w h = let a = covers ns g w h.1 in ((λ l k. ap₂ opt (kept_or_empty ns l k) a.0), a.1)
covers ns (some_groups gs) w h = let a = covers ns gs w h in ((λ l k. kept_joined ns l (means gs) k a.0), a.1)
covers ns (groups g us) w h = let a = covers ns g _ h in let b = covers ns us w a.1 in (b.0 (means g) a.0, b.1)
covers ns no_unions w h = ((λ l k. k), h)
covers ns (unions g us) w h = let a = covers ns g _ h.1 in let b = covers ns us w a.1 in ((λ l k. b.0 (union l (means g)) (ap₂ union k a.0)), b.1)
covers ns (ends a p b) w h =
    let x = covers ns a _ h in
    let y = covers ns p _ x.1 in
    let z = covers ns b _ y.1 in
    (ap₂ (λ l r. line l (means p) r) x.0 z.0, z.1.1)
covers ns (end_iri x) w h = (refl, h.1)
covers ns (end_literal x) w h = (refl, h.1)
covers ns (end_name x) w h = (ap variable (name_at_lem ns x h.0), h.1)
covers ns (path s r) w h = (tt, (covers ns r w (covers ns s _ h).1).1)
covers ns no_alternatives w h = (tt, h)
covers ns (alternatives s r) w h = (tt, (covers ns r w (covers ns s _ h.1).1).1)
covers ns (chain s ss) w h = (tt, (covers ns ss w (covers ns s _ h).1).1)
covers ns no_steps w h = (tt, h)
covers ns (steps s ss) w h = (tt, (covers ns ss w (covers ns s _ h.1).1).1)
covers ns (forward b s) w h = (tt, (covers ns s w (covers ns b _ h).1).1)
covers ns (backward b s) w h = (tt, (covers ns s w (covers ns b _ h.1).1).1)
covers ns once w h = (tt, h)
covers ns repeated w h = (tt, h.1)
covers ns (predicate x) w h = (tt, h.1)
covers ns (other n) w h = (tt, (covers ns n w h.1).1)
covers ns (brackets p) w h = (tt, (covers ns p _ h.1).1.1)
covers ns (one x) w h = (tt, h.1)
covers ns (several x ms) w h = (tt, (covers ns ms w h.1.1).1)
covers ns no_members w h = (tt, h.1)
covers ns (members x ms) w h = (tt, (covers ns ms w h.1.1).1)

pub numbers_are_faithful : NumbersAreFaithful
numbers_are_faithful text q p =
    let v = words (tokens text) in
    let ns = (gather nothing v).names in
    let d = gathered_distinct nothing v refl in
    let back : Kept ns (means p.tree) = (covers ns p.tree [] (subst (NamesIn ns) p.lawful.derives (gathered_all nothing v))).0 in
    record {
      few = omega (arith, gathered_few nothing v (omega arith) p.lawful.clear, ap length p.names);
      distinct = ap distinct p.names ∙ d;
      number = λ i lt. place_at q.names i (ap distinct p.names ∙ d) lt;
      name = ap₂ (λ n x. named n (numbered n x)) p.names p.pattern ∙ back ∙ sym p.pattern;
    }
