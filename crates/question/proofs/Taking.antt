-- One token is passed, or it is at fault.
use Rattle.std.proofs.Common.{◌≡◌, ℕ, ◌+◌, ◌<◌, ◌≤◌, true, false, cond, List, [], ◌∷◌, map, Some, Ok, Err, Result, MatchResult, IsErrAnd, sym, refl, ap, ◌∙◌, subst, arith, length}
use Rattle.room.specs.Items.{items}
use Rattle.tokens.specs.declared.token.Token.{Token}
use Rattle.tokens.specs.declared.token.Token.TheVariants.{Iri, Literal, Variable, OpenBrace, CloseBrace, OpenParen, CloseParen, Dot, Bar, Slash, Caret, Star, Bang, Optional, Union, Wrong, End}
use Rattle.tokens.specs.declared.token.Lexeme.{Lexeme}
use Rattle.tokens.specs.Words.{Word, sort, saying, same, end}
use Rattle.tokens.specs.Lexed.{said, final, ahead, tokens_from, First, part, inner}
use Rattle.grammar.specs.declared.refusal.Fault.{Fault}
use Rattle.grammar.specs.declared.refusal.Reason.{Reason}
use Rattle.grammar.specs.declared.refusal.Reason.TheVariants.{NoQuestion, TooDeep, TooManyVariables, TooLong}
use Rattle.grammar.specs.Limits.{Seen, after, limit}
use Rattle.grammar.specs.Reading.{words}
use Rattle.grammar.specs.Machine.{the, Reaches}
use Rattle.grammar.proofs.Moves.{reach_stay, reach_take, same_is, same_refl, differ}
use Rattle.question.specs.declared.reader.Reader.{Reader}
use Rattle.question.specs.Views.{View, text_of, seen_of, view, Idle, Because, Failed}
use Rattle.question.specs.Arena.{name_of, term_of}
use Rattle.question.specs.Outcomes.{Outcome, Took}
use Rattle.question.specs.Admission.{Passed, Admission, Admitted, Over}
use Rattle.question.proofs.Counts.{clash}
use Rattle.question.proofs.Going.{kept_idle}

pub alike : (s t : Token) → s ≡ t → same s t ≡ true
alike s t e = ap (λ u. same u t) e ∙ same_refl t

pub sort_saying : (t : Token) (y : List ℕ) → sort (saying t y) ≡ t
sort_saying Iri y = refl
sort_saying Literal y = refl
sort_saying Variable y = refl
sort_saying OpenBrace y = refl
sort_saying CloseBrace y = refl
sort_saying OpenParen y = refl
sort_saying CloseParen y = refl
sort_saying Dot y = refl
sort_saying Bar y = refl
sort_saying Slash y = refl
sort_saying Caret y = refl
sort_saying Star y = refl
sort_saying Bang y = refl
sort_saying Optional y = refl
sort_saying Union y = refl
sort_saying Wrong y = refl
sort_saying End y = refl

final_saying : (t : Token) (y z : List ℕ) → final (saying t y) ≡ final (saying t z)
final_saying Iri y z = refl
final_saying Literal y z = refl
final_saying Variable y z = refl
final_saying OpenBrace y z = refl
final_saying CloseBrace y z = refl
final_saying OpenParen y z = refl
final_saying CloseParen y z = refl
final_saying Dot y z = refl
final_saying Bar y z = refl
final_saying Slash y z = refl
final_saying Caret y z = refl
final_saying Star y z = refl
final_saying Bang y z = refl
final_saying Optional y z = refl
final_saying Union y z = refl
final_saying Wrong y z = refl
final_saying End y z = refl

pub sort_said : (text : List ℕ) (l : Lexeme) → sort (said text l) ≡ l.token
sort_said text l = sort_saying l.token (part text (l.start + 1) (inner l))

-- which way the next word points, by the code's token
pub next_sort : (r : Reader) → sort (said (text_of r) r.next) ≡ r.next.token
next_sort r = sort_said (text_of r) r.next

pub points : (r : Reader) {t : Token} → r.next.token ≡ t → sort (said (text_of r) r.next) ≡ t
points r e = next_sort r ∙ e

pub elsewhere : (r : Reader) {t : Token} → (r.next.token ≡ t → ⊥) → sort (said (text_of r) r.next) ≡ t → ⊥
elsewhere r n e = n (sym (next_sort r) ∙ e)

-- the text's end is the last token
pub said_end : (r : Reader) → same r.next.token End ≡ true → words (view r).spots ≡ end ∷ []
said_end r h =
    let e : said (text_of r) r.next ≡ end = ap (λ u. saying u (part (text_of r) (r.next.start + 1) (inner r.next))) (same_is r.next.token End h) in
    (λ i. e i ∷ words (cond (final (e i)) [] (tokens_from (text_of r) r.next.end)))

-- a token of a sort that more can follow
pub not_last : (text : List ℕ) (l : Lexeme) (t : Token) → same l.token t ≡ true → final (saying t []) ≡ false → final (said text l) ≡ false
not_last text l t e h = final_saying l.token (part text (l.start + 1) (inner l)) [] ∙ ap (λ u. final (saying u [])) (same_is l.token t e) ∙ h

-- at most the token at hand is another one
pub record Still (p m : Reader) : Type 0 where
  pub depth : m.depth ≡ p.depth
  pub full : m.full ≡ p.full
  pub built : m.built ≡ p.built

pub seen_still : {p m : Reader} → Still p m → seen_of m ≡ seen_of p
seen_still h = λ i. record {
  depth = h.depth i;
  names = map (name_of (items (h.built i).text)) (items (h.built i).names);
  terms = map (term_of (items (h.built i).text)) (items (h.built i).terms);
}

-- what a reader has that is at this token
abbrev at_lexeme : Reader → Lexeme → View
at_lexeme r l = record {
  spots = ahead (text_of r) l;
  start = l.start;
  seen = seen_of r;
  paths = items r.built.paths;
  patterns = items r.built.patterns;
  count = r.built.nodes;
  full = r.full;
}

module _ (p : Reader) (t : Token) (is : same p.next.token t ≡ true) (lasts : final (saying t []) ≡ false) where
  abbrev x : Word
  x = said (text_of p) p.next

  goes_on : final x ≡ false
  goes_on = not_last (text_of p) p.next t is lasts

  pub passed : {m : Reader} → Still p m → p.next.end ≤ m.next.start → Passed p.next m
  passed still behind = record { some = p.long goes_on; behind = behind; few = omega (arith, p.few, ap (λ q. length (items q.terms)) still.built) }

  -- the token was admitted, and the next one was cut
  module _ {m b : Reader} {l : Lexeme} {n : ℕ} (still : Still p m) (ok : Admitted (said (text_of p) p.next) m b n) (first : First (text_of b) p.next.end l) where
    spots_are : ahead (text_of p) p.next ≡ record { at = p.next.start; word = x } ∷ ahead (text_of b) l
    spots_are =
        ap (λ b. record { at = p.next.start; word = x } ∷ cond b [] (tokens_from (text_of p) p.next.end)) goes_on
        ∙ ap (λ v. record { at = p.next.start; word = x } ∷ v) (ap (λ u. tokens_from u p.next.end) (sym (ok.text ∙ ap (λ q. items q.text) still.built)) ∙ first.stream)

    sorted : sort x ≡ t
    sorted = next_sort p ∙ same_is p.next.token t is

    falls : p.next.start < l.start
    falls = omega (arith, p.long goes_on, first.forward)

    idle : Idle (view p) (at_lexeme b l)
    idle = record {
      paths = ok.idle.paths ∙ ap (λ q. items q.paths) still.built;
      patterns = ok.idle.patterns ∙ ap (λ q. items q.patterns) still.built;
      count = ok.idle.count ∙ ap (λ q. q.nodes) still.built;
      full = ok.idle.full ∙ still.full;
    }

    seen_is : seen_of b ≡ after (seen_of p) x
    seen_is = ok.seen ∙ ap (λ s. after s x) (seen_still still)

    pub took : Outcome (the t) (view p) (λ i. Took t (view p) (at_lexeme b l) i) (Ok n)
    took = record {
      is = record {
        word = x;
        sorted = sorted;
        reads = ap words spots_are;
        went = record {
          reach = λ ρ. subst (λ v. Reaches (the t ∷ ρ) v ρ (words (ahead (text_of b) l))) (sym (ap words spots_are)) (reach_take t x (ap (same t) sorted ∙ same_refl t) reach_stay);
          passes = record { passed = record { at = p.next.start; word = x } ∷ []; split = spots_are; clear = (ap (λ s. limit s x) (sym (seen_still still)) ∙ ok.clear, tt); gathers = sym seen_is };
          kept = kept_idle idle (omega (arith, falls));
        };
        seen = seen_is;
        idle = idle;
        numbered = ok.numbered;
        falls = falls;
      };
    }

-- ---- faults

same_sym : (s t : Token) → same s t ≡ false → same t s ≡ false
same_sym s t h = differ t s (λ e. clash (sym (same_refl s) ∙ ap (same s) (sym e) ∙ h))

because : (t : Token) (why : Reason) (s : Seen) (x : Word) → same t (sort x) ≡ true → (why ≡ NoQuestion → ⊥) → limit s x ≡ Some why → Because why s t x
because t NoQuestion s x e n h = absurd (n refl)
because t TooDeep s x e n h = (e, h)
because t TooManyVariables s x e n h = (e, h)
because t TooLong s x e n h = (e, h)

module _ (p : Reader) (t : Token) where
  -- the token at hand is at fault
  stopped : (why : Reason) → Because why (seen_of p) t (said (text_of p) p.next) → Failed (the t) (view p) (record { reason = why; at = p.next.start })
  stopped why h = record {
    passed = [];
    here = record { at = p.next.start; word = said (text_of p) p.next };
    behind = cond (final (said (text_of p) p.next)) [] (tokens_from (text_of p) p.next.end);
    split = refl;
    place = refl;
    clear = tt;
    stops = λ ρ. record { waits = t; below = ρ; reach = reach_stay; because = h };
  }

  pub unlike : same p.next.token t ≡ false → Failed (the t) (view p) (record { reason = NoQuestion; at = p.next.start })
  unlike h = stopped NoQuestion (ap (same t) (next_sort p) ∙ same_sym p.next.token t h)

  pub over : {m : Reader} {why : Reason} → Over (said (text_of p) p.next) m why → Still p m → same p.next.token t ≡ true → Failed (the t) (view p) (record { reason = why; at = p.next.start })
  over {m} {why} h still is = stopped why (because t why (seen_of p) (said (text_of p) p.next) (ap (same t) (next_sort p ∙ same_is p.next.token t is) ∙ same_refl t) h.apart (ap (λ s. limit s (said (text_of p) p.next)) (sym (seen_still still)) ∙ h.limited))

-- what came of a token: it was admitted, or it is at fault
abbrev Came : (p : Reader) (t : Token) (m b : Reader) → Result ℕ Fault → Type 0
Came p t m b o = MatchResult o (λ n. Admitted (said (text_of p) p.next) m b n) (λ f. Failed (the t) (view p) f)

pub told : (p : Reader) (t : Token) → same p.next.token t ≡ true → {m b : Reader} → Still p m → (r : Result ℕ Reason) (s : Result ℕ Fault) (Made : Reason → Fault → Type 0)
    → Admission (said (text_of p) p.next) m b r → MatchResult r (λ n. s ≡ Ok n) (λ why. IsErrAnd s (Made why)) → ((why : Reason) (f : Fault) → Made why f → f ≡ record { reason = why; at = p.next.start })
    → (o : Result ℕ Fault) → s ≡ o → Came p t m b o
told p t is {m} {b} still (Ok n) s Made h same_answer made o was = subst (Came p t m b) (sym same_answer ∙ was) h.is
told p t is {m} {b} still (Err why) (Ok n) Made h never made o was = absurd never
told p t is {m} {b} still (Err why) (Err f) Made h at made o was = subst (Came p t m b) was (subst (Failed (the t) (view p)) (sym (made why f at)) (over p t h.is still is))
