-- What is kept of a word that is within its limits.
use Rattle.std.proofs.Common.{◌≡◌, ℕ, ◌<◌, ◌≤◌, true, false, cond, ltb, List, [], ◌∷◌, ◌++◌, map, length, Some, None, Ok, Err, Option, sym, refl, ap, ◌∙◌, subst, arith, le-ltb, lt-ltb, le-leb}
use borrow.Author.Tests.{lt-leb}
use lib.ListN.{length-map}
use Rattle.std.proofs.lemmas.List.{map_push}
use Rattle.room.specs.Items.{items}
use Rattle.terms.specs.declared.kind.Kind.{Kind}
use Rattle.terms.specs.declared.kind.Kind.TheVariants.{Iri, Literal}
use Rattle.tokens.specs.declared.token.Token.{Token}
use Rattle.tokens.specs.declared.token.Lexeme.{Lexeme}
use Rattle.tokens.specs.Words.{name}
use Rattle.tokens.specs.Lexed.{said}
use Rattle.grammar.specs.declared.refusal.Reason.{Reason}
use Rattle.grammar.specs.declared.refusal.Reason.TheVariants.{NoQuestion, TooDeep, TooManyVariables, TooLong}
use Rattle.grammar.specs.Grammar.{Name}
use Rattle.grammar.specs.Limits.{Seen, limit, known, noted, at_most}
use Rattle.question.specs.declared.span.Span.{Span}
use Rattle.question.specs.declared.span.TermSpan.{TermSpan}
use Rattle.question.specs.declared.reader.Reader.{Reader}
use Rattle.question.specs.Arena.{name_of, term_of}
use Rattle.question.specs.Views.{text_of, seen_of, view, Idle, Stands}
use Rattle.question.proofs.Bytes.{Finds}
use Rattle.question.specs.Admission.{term_word, Admission}
use Rattle.grammar.specs.Numbered.{distinct}
use Rattle.grammar.proofs.Numbering.{gathered_distinct}
use Rattle.question.proofs.Holding.{stands_last}

pub within : (most n : ℕ) → n ≤ most → at_most most n ≡ None
within most n h = ap (λ b. cond b None (Some TooLong)) (le-leb n most h)

pub beyond : (most n : ℕ) → most < n → at_most most n ≡ Some TooLong
beyond most n h = ap (λ b. cond b None (Some TooLong)) (lt-leb n most h)

pub too_long : TooLong ≡ NoQuestion → ⊥
too_long e = let z : ◌≡◌ {A = ℕ} 0 1 = cc in omega arith

pub too_many : TooManyVariables ≡ NoQuestion → ⊥
too_many e = let z : ◌≡◌ {A = ℕ} 0 1 = cc in omega arith

pub too_deep : TooDeep ≡ NoQuestion → ⊥
too_deep e = let z : ◌≡◌ {A = ℕ} 0 1 = cc in omega arith

-- the word of a token whose sort is known
pub said_as : (text : List ℕ) (l : Lexeme) (t : Token) → l.token ≡ t → said text (record { token = t; start = l.start; end = l.end }) ≡ said text l
said_as text l t e = ap (λ u. said text (record { token = u; start = l.start; end = l.end })) (sym e)

-- ---- the limits of a name

abbrev at_names : Name → Seen → Option Reason
at_names x s = cond (ltb (length s.names) 8) (at_most 16 (length x)) (Some TooManyVariables)

unknown : (x : Name) (s : Seen) → known x s.names ≡ false → limit s (name x) ≡ at_names x s
unknown x s e = ap (λ b. cond b None (at_names x s)) e

roomy : (x : Name) (s : Seen) → length s.names < 8 → at_names x s ≡ at_most 16 (length x)
roomy x s h = ap (λ b. cond b (at_most 16 (length x)) (Some TooManyVariables)) (lt-ltb (length s.names) 8 h)

crowded : (x : Name) (s : Seen) → 8 ≤ length s.names → at_names x s ≡ Some TooManyVariables
crowded x s h = ap (λ b. cond b (at_most 16 (length x)) (Some TooManyVariables)) (le-ltb (length s.names) 8 h)

-- ---- what a reader has after a word

-- only the parts of a question that are kept of words may differ
pub record Beside (a b : Reader) : Type 0 where
  pub next : b.next ≡ a.next
  pub full : b.full ≡ a.full
  pub text : b.built.text ≡ a.built.text
  pub paths : b.built.paths ≡ a.built.paths
  pub patterns : b.built.patterns ≡ a.built.patterns
  pub nodes : b.built.nodes ≡ a.built.nodes

pub idle : {a b : Reader} → Beside a b → Idle (view a) (view b)
idle h = record { paths = ap items h.paths; patterns = ap items h.patterns; count = h.nodes; full = h.full }

module _ {a b : Reader} (h : Beside a b) (deep : b.depth ≡ a.depth) where
  -- a term more
  module _ (names : b.built.names ≡ a.built.names) (t : TermSpan) (n : ℕ) (terms : items b.built.terms ≡ items a.built.terms ++ t ∷ []) (at : n ≡ length (items a.built.terms)) where
    terms_are : (seen_of b).terms ≡ (seen_of a).terms ++ term_of (text_of a) t ∷ []
    terms_are =
        ap (λ v. map (term_of (items v)) (items b.built.terms)) h.text
        ∙ ap (map (term_of (text_of a))) terms ∙ map_push (term_of (text_of a)) (items a.built.terms) t

    stands : Stands (seen_of b).terms n (term_of (text_of a) t)
    stands = subst (λ l. Stands l n (term_of (text_of a) t)) (sym terms_are) (stands_last (seen_of a).terms (term_of (text_of a) t) n (at ∙ sym (length-map (items a.built.terms) (term_of (text_of a)))))

    seen_is : seen_of b ≡ record { depth = a.depth; names = (seen_of a).names; terms = (seen_of a).terms ++ term_of (text_of a) t ∷ [] }
    seen_is = λ i. record { depth = deep i; names = map (name_of (items (h.text i))) (items (names i)); terms = terms_are i }

    go : (k : Kind) → t.kind ≡ k → length (name_of (text_of a) t.span) ≤ 128 → Admission (term_word k (name_of (text_of a) t.span)) a b (Ok n)
    go Iri e short =
        let same : term_of (text_of a) t ≡ record { kind = Iri; bytes = name_of (text_of a) t.span } = ap (λ k. record { kind = k; bytes = name_of (text_of a) t.span }) e in
        record {
          is = record {
            clear = within 128 (length (name_of (text_of a) t.span)) short;
            seen = seen_is ∙ ap (λ u. record { depth = a.depth; names = (seen_of a).names; terms = (seen_of a).terms ++ u ∷ [] }) same;
            text = ap items h.text;
            next = h.next;
            idle = idle h;
            numbered = subst (Stands (seen_of b).terms n) same stands;
          };
        }
    go Literal e short =
        let same : term_of (text_of a) t ≡ record { kind = Literal; bytes = name_of (text_of a) t.span } = ap (λ k. record { kind = k; bytes = name_of (text_of a) t.span }) e in
        record {
          is = record {
            clear = within 128 (length (name_of (text_of a) t.span)) short;
            seen = seen_is ∙ ap (λ u. record { depth = a.depth; names = (seen_of a).names; terms = (seen_of a).terms ++ u ∷ [] }) same;
            text = ap items h.text;
            next = h.next;
            idle = idle h;
            numbered = subst (Stands (seen_of b).terms n) same stands;
          };
        }

    pub term_kept : length (name_of (text_of a) t.span) ≤ 128 → Admission (term_word t.kind (name_of (text_of a) t.span)) a b (Ok n)
    term_kept short = go t.kind refl short

  -- a name more, or one that was seen before
  module _ (terms : b.built.terms ≡ a.built.terms) (s : Span) (n : ℕ) where
    abbrev x : Name
    x = name_of (text_of a) s

    name_admitted : limit (seen_of a) (name x) ≡ None → (seen_of b).names ≡ noted x (seen_of a).names → Stands (seen_of b).names n x → Admission (name x) a b (Ok n)
    name_admitted clear names there = record {
      is = record {
        clear = clear;
        seen = λ i. record { depth = deep i; names = names i; terms = map (term_of (items (h.text i))) (items (terms i)) };
        text = ap items h.text;
        next = h.next;
        idle = idle h;
        numbered = there;
      };
    }

    pub name_new : items b.built.names ≡ items a.built.names ++ s ∷ [] → n ≡ length (items a.built.names) → n < 8 → length (name_of (text_of a) s) ≤ 16 → known (name_of (text_of a) s) (seen_of a).names ≡ false → Admission (name (name_of (text_of a) s)) a b (Ok n)
    name_new names at less short un =
        let more : (seen_of b).names ≡ (seen_of a).names ++ x ∷ [] =
        ap (λ v. map (name_of (items v)) (items b.built.names)) h.text ∙ ap (map (name_of (text_of a))) names ∙ map_push (name_of (text_of a)) (items a.built.names) s in
        let long : length (seen_of a).names ≡ n = length-map (items a.built.names) (name_of (text_of a)) ∙ sym at in
        name_admitted (unknown x (seen_of a) un ∙ roomy x (seen_of a) (omega arith) ∙ within 16 (length x) short)
        (more ∙ sym (ap (λ b. cond b (seen_of a).names ((seen_of a).names ++ x ∷ [])) un))
        (subst (λ l. Stands l n x) (sym more) (stands_last (seen_of a).names x n (sym long)))

    pub name_known : b.built.names ≡ a.built.names → Finds (name_of (text_of a) s) (seen_of a).names (Some n) → Admission (name (name_of (text_of a) s)) a b (Ok n)
    name_known names found =
        let same : (seen_of b).names ≡ (seen_of a).names = λ i. map (name_of (items (h.text i))) (items (names i)) in
        name_admitted
        (ap (λ b. cond b None (at_names x (seen_of a))) found.0)
        (same ∙ sym (ap (λ b. cond b (seen_of a).names ((seen_of a).names ++ x ∷ [])) found.0))
        (subst (λ l. Stands l n x) (sym same) found.1)

-- a new name is none of those before
pub still_distinct : (x : Name) (s : Seen) → distinct s.names ≡ true → known x s.names ≡ false → distinct (s.names ++ x ∷ []) ≡ true
still_distinct x s d un = subst (λ b. distinct (cond b s.names (s.names ++ x ∷ [])) ≡ true) un (gathered_distinct s (name x ∷ []) d)

-- ---- words over a limit

pub term_long : {a b : Reader} (k : Kind) (x : List ℕ) → 128 < length x → Admission (term_word k x) a b (Err TooLong)
term_long Iri x h = record { is = record { limited = beyond 128 (length x) h; apart = too_long } }
term_long Literal x h = record { is = record { limited = beyond 128 (length x) h; apart = too_long } }

module _ {a b : Reader} (x : Name) (un : known x (seen_of a).names ≡ false) where
  pub ninth : 8 ≤ length (items a.built.names) → Admission (name x) a b (Err TooManyVariables)
  ninth many = record {
    is = record {
      limited = unknown x (seen_of a) un ∙ crowded x (seen_of a) (omega (arith, length-map (items a.built.names) (name_of (text_of a))));
      apart = too_many;
    };
  }

  pub name_long : length (items a.built.names) < 8 → 16 < length x → Admission (name x) a b (Err TooLong)
  name_long few h = record {
    is = record {
      limited = unknown x (seen_of a) un ∙ roomy x (seen_of a) (omega (arith, length-map (items a.built.names) (name_of (text_of a)))) ∙ beyond 16 (length x) h;
      apart = too_long;
    };
  }
