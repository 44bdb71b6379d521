-- What the reader of a path answers, from what its parts answered.
use Rattle.std.proofs.Common.{◌≡◌, ℕ, ◌+◌, ◌-◌, ◌≤◌, false, cond, List, [], ◌∷◌, ◌++◌, length, Ok, Err, Result, sym, refl, ap, ◌∙◌, subst, append_assoc, append-nil, arith, length-append}
use Rattle.terms.specs.Terms.{Term}
use Rattle.tokens.specs.declared.token.Token.{Token}
use Rattle.tokens.specs.declared.token.Token.TheVariants.{Iri, OpenParen, CloseParen, Bar, Caret, Star, Bang}
use Rattle.tokens.specs.Words.{Word, content, saying, same, iri}
use Rattle.grammar.specs.declared.refusal.Fault.{Fault}
use Rattle.grammar.specs.Syntax.{path_nodes, negated}
use Rattle.grammar.specs.Grammar.{Kind, is_path, is_step, is_suffix, is_base, is_negation, is_members, Tree, forward, backward, once, repeated, predicate, other, brackets, one, several, no_members, members, spell, means, Paths, iri_term}
use Rattle.grammar.specs.Limits.{after}
use Rattle.grammar.specs.Reading.{words}
use Rattle.grammar.specs.Machine.{Symbol, the, a, lead}
use Rattle.grammar.proofs.Moves.{differ, same_refl, says_is}
use Rattle.question.specs.declared.node.PathNode.TheVariants as node
use Rattle.question.specs.Views.{View, Went, Counted, Idle, Failed, HeldPath}
use Rattle.question.specs.Outcomes.{Outcome, Numbered, Took, Read, PathRead, ReadMembers, ReadSuffix, PlacedPath}
use Rattle.question.proofs.Counts.{counted_idle, counted_then, counted_beside, counted_as, counted_both}
use Rattle.question.proofs.Going.{idle_stay, idle_then, went_stay, went_then, went_on, went_open, went_into, failed_in}
use Rattle.question.proofs.Holding.{Onward, onward, path_stays}
use Rattle.question.proofs.Placing.{went_path, link_placed, inverse_placed, star_placed, negated_placed}

-- ---- which way the next word points

pub this_way : {X : Type 0} {s t : Token} (x y : X) → s ≡ t → cond (same s t) x y ≡ x
this_way {X} {s} {t} x y e = ap (λ b. cond b x y) (ap (λ u. same u t) e ∙ same_refl t)

pub other_way : {X : Type 0} {s t : Token} (x y : X) → (s ≡ t → ⊥) → cond (same s t) x y ≡ y
other_way {X} {s} {t} x y n = ap (λ b. cond b x y) (differ s t n)

-- ---- a word that was passed

pub took_word : {t : Token} {p q : View} {n : ℕ} (h : Took t p q n) → h.word ≡ saying t (content h.word)
took_word h = sym (says_is h.word) ∙ ap (λ u. saying u (content h.word)) h.sorted

pub took_reads : {t : Token} {p q : View} {n : ℕ} (h : Took t p q n) → words p.spots ≡ saying t (content h.word) ∷ words q.spots
took_reads {t} {p} {q} h = h.reads ∙ ap (λ x. x ∷ words q.spots) (took_word h)

pub took_seen : {t : Token} {p q : View} {n : ℕ} (h : Took t p q n) → q.seen ≡ after p.seen (saying t (content h.word))
took_seen {t} {p} h = h.seen ∙ ap (after p.seen) (took_word h)

pub took_number : {t : Token} {p q : View} {n : ℕ} (h : Took t p q n) → Numbered q.seen (saying t (content h.word)) n
took_number {t} {p} {q} {n} h = subst (λ x. Numbered q.seen x n) (took_word h) h.numbered

pub took_onward : {t : Token} {p q : View} {n : ℕ} → Took t p q n → q.full ≡ false → Onward p q
took_onward h f = onward h.went.passes h.went.kept f

pub read_onward : {k : Kind} {p q : View} → Went (a k ∷ []) [] p q → q.full ≡ false → Onward p q
read_onward g f = onward g.passes g.kept f

-- ---- counts

pub counted_after : {p q r : View} {m n : ℕ} → Idle p q → Counted q r m n → Counted p r m n
counted_after {p} {q} {r} {m} {n} i c = record {
  short = λ f. omega (arith, c.short f, i.count);
  long = λ f g. omega (arith, c.long (i.full ∙ f) g, i.count);
}

pub counted_before : {p q r : View} {m n : ℕ} → Counted p q m n → Idle q r → Counted p r m n
counted_before {p} {q} {r} {m} {n} c i = record {
  short = λ f. omega (arith, c.short (sym i.full ∙ f), i.count);
  long = λ f g. omega (arith, c.long f (sym i.full ∙ g));
}

-- ---- a star, or nothing

pub star_read : {p q r : View} {l n i : ℕ} → lead (words p.spots) ≡ Star → Took Star p q n → PlacedPath q r (node.Star l) 1 i → ReadSuffix l p r i
star_read {p} {q} {r} {l} e h x = record {
  tree = repeated;
  reads = took_reads h ∙ ap (λ v. saying Star [] ∷ words v) (sym x.placed.spots);
  went = went_then (went_on (went_open is_suffix (the Star ∷ []) p (this_way (the Star ∷ []) [] e)) h.went) (went_path x []);
  counted = λ m. counted_after h.idle (counted_as (omega arith) refl (counted_beside (path_nodes m) x.placed.counted));
  held = λ f m s. star_placed x (path_stays (took_onward h (x.placed.free f)) s) f;
}

pub once_read : {p : View} (l : ℕ) → (lead (words p.spots) ≡ Star → ⊥) → ReadSuffix l p p l
once_read {p} l n = record {
  tree = once;
  reads = refl;
  went = went_open is_suffix [] p (other_way (the Star ∷ []) [] n);
  counted = λ m. counted_idle (idle_stay p) (path_nodes m);
  held = λ f m s. s;
}

pub star_fails : {p : View} {f : Fault} → lead (words p.spots) ≡ Star → Failed (the Star) p f → Failed (a is_suffix) p f
star_fails {p} e h = failed_in (went_open is_suffix (the Star ∷ []) p (this_way (the Star ∷ []) [] e)) h

suffix_larger : (t : Tree is_suffix) (m : Paths) → path_nodes m ≤ path_nodes (means t m)
suffix_larger once m = omega arith
suffix_larger repeated m = omega arith

-- ---- a step

abbrev pub PathDone : (k : Kind) → (Tree k → Paths) → View → View → ℕ → Type 0
PathDone k of p q i = Read k of path_nodes HeldPath p q i

module _ {p : View} (n : lead (words p.spots) ≡ Caret → ⊥) where
  opened_forward : Went (a is_step ∷ []) (a is_base ∷ a is_suffix ∷ []) p p
  opened_forward = went_open is_step (a is_base ∷ a is_suffix ∷ []) p (other_way (the Caret ∷ a is_base ∷ a is_suffix ∷ []) (a is_base ∷ a is_suffix ∷ []) n)

  pub forward_first : {f : Fault} → Failed (a is_base) p f → Failed (a is_step) p f
  forward_first h = failed_in opened_forward h

  module _ {q : View} {l : ℕ} (b : PathDone is_base (λ t. means t) p q l) where
    pub forward_then : {f : Fault} → Failed (a is_suffix) q f → Failed (a is_step) p f
    forward_then h = failed_in (went_on opened_forward b.went) h

    pub forward_read : {r : View} {i : ℕ} → ReadSuffix l q r i → PathDone is_step (λ t. means t) p r i
    forward_read {r} s = record {
      tree = forward b.tree s.tree;
      reads = b.reads ∙ ap (spell b.tree) s.reads;
      went = went_on (went_on opened_forward b.went) s.went;
      counted = counted_then b.counted (s.counted (means b.tree)) s.went.kept.free (suffix_larger s.tree (means b.tree));
      held = λ f. s.held f (means b.tree) (b.held (s.went.kept.free f));
    }

    pub forward_out : {r : View} (o : Result ℕ Fault) → Outcome (a is_suffix) q (λ i. ReadSuffix l q r i) o → PathRead is_step (λ t. means t) p r o
    forward_out (Ok i) x = record { is = forward_read x.is }
    forward_out (Err f) x = record { is = forward_then x.is }

module _ {p : View} (e : lead (words p.spots) ≡ Caret) where
  opened_backward : Went (a is_step ∷ []) (the Caret ∷ a is_base ∷ a is_suffix ∷ []) p p
  opened_backward = went_open is_step (the Caret ∷ a is_base ∷ a is_suffix ∷ []) p (this_way (the Caret ∷ a is_base ∷ a is_suffix ∷ []) (a is_base ∷ a is_suffix ∷ []) e)

  pub backward_sign : {f : Fault} → Failed (the Caret) p f → Failed (a is_step) p f
  backward_sign h = failed_in opened_backward h

  module _ {q : View} {n : ℕ} (c : Took Caret p q n) where
    pub backward_first : {f : Fault} → Failed (a is_base) q f → Failed (a is_step) p f
    backward_first h = failed_in (went_on opened_backward c.went) h

    module _ {r : View} {l : ℕ} (b : PathDone is_base (λ t. means t) q r l) where
      pub backward_then : {f : Fault} → Failed (a is_suffix) r f → Failed (a is_step) p f
      backward_then h = failed_in (went_on (went_on opened_backward c.went) b.went) h

      pub backward_read : {s t : View} {j i : ℕ} → ReadSuffix l r s j → PlacedPath s t (node.Inverse j) 1 i → PathDone is_step (λ t. means t) p t i
      backward_read {s} {t} u x = record {
        tree = backward b.tree u.tree;
        reads = took_reads c ∙ ap (λ v. saying Caret [] ∷ v) (b.reads ∙ ap (spell b.tree) (u.reads ∙ ap (λ v. spell u.tree (words v)) (sym x.placed.spots)));
        went = went_then (went_on (went_on (went_on opened_backward c.went) b.went) u.went) (went_path x []);
        counted = counted_after c.idle (counted_both (counted_then b.counted (u.counted (means b.tree)) u.went.kept.free (suffix_larger u.tree (means b.tree))) x.placed.counted x.placed.free);
        held = λ f. let g = x.placed.free f in inverse_placed x (u.held g (means b.tree) (b.held (u.went.kept.free g))) f;
      }

-- ---- a base

abbrev link_parts : List Symbol
link_parts = the Iri ∷ []

abbrev bracket_parts : List Symbol
bracket_parts = the OpenParen ∷ a is_path ∷ the CloseParen ∷ []

abbrev other_parts : List Symbol
other_parts = the Bang ∷ a is_negation ∷ []

module _ {p : View} where
  opened_link : (lead (words p.spots) ≡ Bang → ⊥) → (lead (words p.spots) ≡ OpenParen → ⊥) → Went (a is_base ∷ []) (the Iri ∷ []) p p
  opened_link m n = went_open is_base (the Iri ∷ []) p (other_way other_parts (cond (same (lead (words p.spots)) OpenParen) bracket_parts link_parts) m ∙ other_way bracket_parts link_parts n)

  opened_other : lead (words p.spots) ≡ Bang → Went (a is_base ∷ []) (the Bang ∷ a is_negation ∷ []) p p
  opened_other e = went_open is_base (the Bang ∷ a is_negation ∷ []) p (this_way other_parts (cond (same (lead (words p.spots)) OpenParen) bracket_parts link_parts) e)

  opened_brackets : lead (words p.spots) ≡ OpenParen → Went (a is_base ∷ []) (the OpenParen ∷ a is_path ∷ the CloseParen ∷ []) p p
  opened_brackets e = went_open is_base (the OpenParen ∷ a is_path ∷ the CloseParen ∷ []) p
      (ap (λ s. cond (same s Bang) other_parts (cond (same s OpenParen) bracket_parts link_parts)) e)

  pub link_fails : {f : Fault} → (lead (words p.spots) ≡ Bang → ⊥) → (lead (words p.spots) ≡ OpenParen → ⊥) → Failed (the Iri) p f → Failed (a is_base) p f
  link_fails m n h = failed_in (opened_link m n) h

  pub link_read : {q r : View} {n i : ℕ} → (lead (words p.spots) ≡ Bang → ⊥) → (lead (words p.spots) ≡ OpenParen → ⊥) → Took Iri p q n → PlacedPath q r (node.Link n) 1 i → PathDone is_base (λ t. means t) p r i
  link_read {q} {r} {n} m o h x = record {
    tree = predicate (content h.word);
    reads = took_reads h ∙ ap (λ v. saying Iri (content h.word) ∷ words v) (sym x.placed.spots);
    went = went_then (went_on (opened_link m o) h.went) (went_path x []);
    counted = counted_after h.idle x.placed.counted;
    held = λ f. link_placed x (took_number h) f;
  }

  pub other_sign : {f : Fault} → lead (words p.spots) ≡ Bang → Failed (the Bang) p f → Failed (a is_base) p f
  other_sign e h = failed_in (opened_other e) h

  pub other_out : {q r : View} {n : ℕ} → lead (words p.spots) ≡ Bang → Took Bang p q n → (o : Result ℕ Fault) → PathRead is_negation (λ t. means t) q r o → PathRead is_base (λ t. means t) p r o
  other_out e h (Ok i) x = record {
    is = record {
      tree = other x.is.tree;
      reads = took_reads h ∙ ap (λ v. saying Bang [] ∷ v) x.is.reads;
      went = went_on (went_on (opened_other e) h.went) x.is.went;
      counted = counted_after h.idle x.is.counted;
      held = x.is.held;
    };
  }
  other_out e h (Err f) x = record { is = failed_in (went_on (opened_other e) h.went) x.is }

  module _ (e : lead (words p.spots) ≡ OpenParen) where
    pub brackets_sign : {f : Fault} → Failed (the OpenParen) p f → Failed (a is_base) p f
    brackets_sign h = failed_in (opened_brackets e) h

    module _ {q : View} {n : ℕ} (h : Took OpenParen p q n) where
      pub brackets_inner : {f : Fault} → Failed (a is_path) q f → Failed (a is_base) p f
      brackets_inner x = failed_in (went_on (opened_brackets e) h.went) x

      module _ {r : View} {i : ℕ} (x : PathDone is_path (λ t. means t) q r i) where
        pub brackets_close : {f : Fault} → Failed (the CloseParen) r f → Failed (a is_base) p f
        brackets_close y = failed_in (went_on (went_on (opened_brackets e) h.went) x.went) y

        pub brackets_read : {s : View} {m : ℕ} → Took CloseParen r s m → PathDone is_base (λ t. means t) p s i
        brackets_read y = record {
          tree = brackets x.tree;
          reads = took_reads h ∙ ap (λ v. saying OpenParen [] ∷ v) (x.reads ∙ ap (spell x.tree) (took_reads y));
          went = went_on (went_on (went_on (opened_brackets e) h.went) x.went) y.went;
          counted = counted_before (counted_after h.idle x.counted) y.idle;
          held = λ f. path_stays (took_onward y f) (x.held (sym y.idle.full ∙ f));
        }

-- ---- a negated set

terms_grow : {t : Token} {p q : View} {n : ℕ} (h : Took t p q n) (ms : List Term) → (after p.seen (saying t (content h.word))).terms ≡ p.seen.terms ++ ms → q.seen.terms ≡ p.seen.terms ++ ms
terms_grow h ms e = ap (λ s. s.terms) (took_seen h) ∙ e

pub sign_terms : {t : Token} {p q : View} {n : ℕ} (h : Took t p q n) → (after p.seen (saying t (content h.word))).terms ≡ p.seen.terms → q.seen.terms ≡ p.seen.terms
sign_terms h e = ap (λ s. s.terms) (took_seen h) ∙ e

-- the members that were read so far; whatever members follow them are members from the start
pub record MembersSofar (p q : View) : Type 0 where
  pub sofar : List Term
  pub went : Went (a is_members ∷ []) (a is_members ∷ []) p q
  pub idle : Idle p q
  pub terms : q.seen.terms ≡ p.seen.terms ++ sofar
  pub goes : (t : Tree is_members) (w : List Word) → words q.spots ≡ spell t w → (u : Tree is_members) × (words p.spots ≡ spell u w) × (means u ≡ sofar ++ means t)

pub members_begun : (p : View) → MembersSofar p p
members_begun p = record { sofar = []; went = went_stay (a is_members ∷ []) p; idle = idle_stay p; terms = sym (append-nil p.seen.terms); goes = λ t w e. (t, e, refl) }

module _ {p q : View} (x : MembersSofar p q) where
  module _ (e : lead (words q.spots) ≡ Bar) where
    opened_member : Went (a is_members ∷ []) (the Bar ∷ the Iri ∷ a is_members ∷ []) p q
    opened_member = went_into is_members (the Bar ∷ the Iri ∷ a is_members ∷ []) x.went (this_way (the Bar ∷ the Iri ∷ a is_members ∷ []) (the CloseParen ∷ []) e)

    pub member_sign : {f : Fault} → Failed (the Bar) q f → Failed (a is_members) p f
    member_sign h = failed_in opened_member h

    module _ {r : View} {n : ℕ} (h : Took Bar q r n) where
      pub member_fails : {f : Fault} → Failed (the Iri) r f → Failed (a is_members) p f
      member_fails y = failed_in (went_on opened_member h.went) y

      pub member_more : {s : View} {m : ℕ} → Took Iri r s m → MembersSofar p s
      member_more {s} y =
          let c = content y.word in
          record {
            sofar = x.sofar ++ iri_term c ∷ [];
            went = went_on (went_on opened_member h.went) y.went;
            idle = idle_then x.idle (idle_then h.idle y.idle);
            terms = terms_grow y (iri_term c ∷ []) refl ∙ ap (λ l. l ++ iri_term c ∷ []) (sign_terms h refl ∙ x.terms) ∙ append_assoc p.seen.terms x.sofar (iri_term c ∷ []);
            goes = λ t w e.
                let g = x.goes (members c t) w (took_reads h ∙ ap (λ v. saying Bar [] ∷ v) (took_reads y ∙ ap (λ v. iri c ∷ v) e)) in
                (g.0, g.1, g.2 ∙ sym (append_assoc x.sofar (iri_term c ∷ []) (means t)));
          }

  module _ (n : lead (words q.spots) ≡ Bar → ⊥) where
    opened_close : Went (a is_members ∷ []) (the CloseParen ∷ []) p q
    opened_close = went_into is_members (the CloseParen ∷ []) x.went (other_way (the Bar ∷ the Iri ∷ a is_members ∷ []) (the CloseParen ∷ []) n)

    pub members_fails : {f : Fault} → Failed (the CloseParen) q f → Failed (a is_members) p f
    members_fails h = failed_in opened_close h

    pub members_read : {r : View} {m : ℕ} → Took CloseParen q r m → ReadMembers p r
    members_read {r} h =
        let g = x.goes no_members (words r.spots) (took_reads h) in
        record {
          tree = g.0;
          reads = g.1;
          went = went_on opened_close h.went;
          idle = idle_then x.idle h.idle;
          terms = sign_terms h refl ∙ x.terms ∙ ap (λ l. p.seen.terms ++ l) (sym (append-nil x.sofar) ∙ sym g.2);
        }

abbrev one_parts : List Symbol
one_parts = the Iri ∷ []

abbrev several_parts : List Symbol
several_parts = the OpenParen ∷ the Iri ∷ a is_members ∷ []

-- the node of a negated set whose members came after the terms of p
module _ (p : View) {q r : View} {first count i : ℕ} (ms : List Term) (terms : q.seen.terms ≡ p.seen.terms ++ ms) (from : first ≡ length p.seen.terms) (many : count ≡ length q.seen.terms - first) (x : PlacedPath q r (node.Negated first count) (count + 1) i) where
  counts : count ≡ length ms
  counts = omega (arith, ap length terms ∙ length-append p.seen.terms ms)

  pub set_held : r.full ≡ false → HeldPath r i (negated ms)
  set_held f = negated_placed p.seen.terms ms terms (subst (λ k. PlacedPath q r (node.Negated k (length ms)) (count + 1) i) from (subst (λ k. PlacedPath q r (node.Negated first k) (count + 1) i) counts x)) f

  pub set_counted : Counted q r 0 (1 + length ms)
  set_counted = counted_as refl (omega (arith, counts)) x.placed.counted

module _ {p : View} where
  module _ (n : lead (words p.spots) ≡ OpenParen → ⊥) where
    opened_one : Went (a is_negation ∷ []) (the Iri ∷ []) p p
    opened_one = went_open is_negation (the Iri ∷ []) p (other_way several_parts one_parts n)

    pub one_fails : {f : Fault} → Failed (the Iri) p f → Failed (a is_negation) p f
    one_fails h = failed_in opened_one h

    pub one_read : {q r : View} {m first count i : ℕ} → Took Iri p q m → first ≡ length p.seen.terms → count ≡ length q.seen.terms - first → PlacedPath q r (node.Negated first count) (count + 1) i → PathDone is_negation (λ t. means t) p r i
    one_read {q} {r} h from many x =
        let c = content h.word in
        let ts = terms_grow h (iri_term c ∷ []) refl in
        record {
          tree = one c;
          reads = took_reads h ∙ ap (λ v. iri c ∷ words v) (sym x.placed.spots);
          went = went_then (went_on opened_one h.went) (went_path x []);
          counted = counted_after h.idle (set_counted p (iri_term c ∷ []) ts from many x);
          held = set_held p (iri_term c ∷ []) ts from many x;
        }

  module _ (e : lead (words p.spots) ≡ OpenParen) where
    opened_several : Went (a is_negation ∷ []) (the OpenParen ∷ the Iri ∷ a is_members ∷ []) p p
    opened_several = went_open is_negation (the OpenParen ∷ the Iri ∷ a is_members ∷ []) p (this_way several_parts one_parts e)

    pub several_sign : {f : Fault} → Failed (the OpenParen) p f → Failed (a is_negation) p f
    several_sign h = failed_in opened_several h

    module _ {q : View} {n : ℕ} (h : Took OpenParen p q n) where
      pub several_first : {f : Fault} → Failed (the Iri) q f → Failed (a is_negation) p f
      several_first y = failed_in (went_on opened_several h.went) y

      module _ {r : View} {m : ℕ} (y : Took Iri q r m) where
        pub several_fails : {f : Fault} → Failed (a is_members) r f → Failed (a is_negation) p f
        several_fails z = failed_in (went_on (went_on opened_several h.went) y.went) z

        pub several_read : {s t : View} {first count i : ℕ} → ReadMembers r s → first ≡ length p.seen.terms → count ≡ length s.seen.terms - first → PlacedPath s t (node.Negated first count) (count + 1) i → PathDone is_negation (λ t. means t) p t i
        several_read {s} {t} z from many x =
            let c = content y.word in
            let ms = iri_term c ∷ means z.tree in
            let ts : s.seen.terms ≡ p.seen.terms ++ ms = z.terms ∙ ap (λ l. l ++ means z.tree) (terms_grow y (iri_term c ∷ []) refl ∙ ap (λ l. l ++ iri_term c ∷ []) (sign_terms h refl)) ∙ append_assoc p.seen.terms (iri_term c ∷ []) (means z.tree) in
            record {
              tree = several c z.tree;
              reads = took_reads h ∙ ap (λ v. saying OpenParen [] ∷ v) (took_reads y ∙ ap (λ v. iri c ∷ v) (z.reads ∙ ap (λ v. spell z.tree (words v)) (sym x.placed.spots)));
              went = went_then (went_on (went_on (went_on opened_several h.went) y.went) z.went) (went_path x []);
              counted = counted_after (idle_then h.idle (idle_then y.idle z.idle)) (set_counted p ms ts from many x);
              held = set_held p ms ts from many x;
            }
