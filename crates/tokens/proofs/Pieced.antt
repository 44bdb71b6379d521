-- What the code cuts at an offset is the piece there.
use Rattle.std.proofs.Common.{◌≡◌, ℕ, ◌+◌, ◌-◌, ◌<◌, ◌≤◌, Bool, true, false, cond, not, ◌&&◌, eqb, List, [], ◌∷◌, length, get_or, take, take_while, drop, codes, sym, refl, ap, ◌∙◌, subst, arith}
use native.Mathlib.Nat.{sub-zero}
use Rattle.std.proofs.lemmas.List.{drop_more, drop-drop, length-drop}
use Rattle.std.proofs.lemmas.Bool.{cond-true, cond-false, and_from, and_left, and_right, not_from_false, ne_eqb, true≢false}
use Rattle.terms.specs.Bytes.{iri_byte, leads, literal_byte, word_byte}
use Rattle.terms.proofs.Runs.{run_fits, run_take}
use Rattle.tokens.specs.declared.token.Token.{Token}
use Rattle.tokens.specs.declared.token.Token.TheVariants.{Iri, Literal, Variable, Wrong}
use Rattle.tokens.specs.declared.token.Lexeme.{Lexeme}
use Rattle.tokens.specs.Words.{Word, iri, literal, name, sort, saying}
use Rattle.tokens.specs.Lexed.{Piece, piece, stray, is_nil, same_bytes, part, inner, iri_piece, literal_piece, name_piece, keyword, word_piece, signs, lexeme}
use Rattle.tokens.specs.Pieces.{Reads}
use Rattle.tokens.proofs.Lists.{run_some, leads_within, some_not_nil}

-- the piece is the same by another name
as_piece : {text : List ℕ} {s : ℕ} {l : Lexeme} (p q : Piece) → q ≡ p → Reads text s p l → Reads text s q l
as_piece {text} {s} {l} p q e r = subst (λ x. Reads text s x l) (sym e) r

pub stray_read : (text : List ℕ) (s : ℕ) → s < length text → Reads text s stray record { token = Wrong; start = s; end = s + 1 }
stray_read text s h = record { begins = refl; says = refl; ends = refl; some = omega arith; within = omega arith }

-- a run from an offset on, where the code says that it ends at e
part_front : (p : ℕ → Bool) (text : List ℕ) (s e : ℕ) → e ≡ s + length (take_while p (drop s text)) → part text s e ≡ take_while p (drop s text)
part_front p text s e h =
    let n : e - s ≡ length (take_while p (drop s text)) = omega arith in
    ap (λ k. take k (drop s text)) n ∙ run_take p (drop s text)

-- the byte after the run, seen from the text's beginning
after_front : (c : ℕ) (p : ℕ → Bool) (text : List ℕ) (s e : ℕ) → e ≡ s + length (take_while p (drop s text)) → leads c (drop (length (take_while p (drop s text))) (drop s text)) ≡ leads c (drop e text)
after_front c p text s e h = ap (leads c) (drop-drop (length (take_while p (drop s text))) s text) ∙ ap (λ k. leads c (drop k text)) (sym h)

-- a run between marks
quoted : (p : ℕ → Bool) (text : List ℕ) (s e : ℕ) → e ≡ s + 1 + length (take_while p (drop (s + 1) text)) → part text (s + 1) (e + 1 - 1) ≡ take_while p (drop (s + 1) text)
quoted p text s e h = let k : e + 1 - 1 ≡ e = omega arith in ap (part text (s + 1)) k ∙ part_front p text (s + 1) e h

pub iri_read : (text : List ℕ) (s e : ℕ) → e ≡ s + 1 + length (take_while iri_byte (drop (s + 1) text)) → s + 1 < e → true ≡ leads 62 (drop e text) → Reads text s (iri_piece (drop (s + 1) text)) record { token = Iri; start = s; end = e + 1 }
iri_read text s e h more mark =
    as_piece (piece (iri x) (length x + 2)) _ (cond-true _ _ _ test)
    record { begins = refl; says = ap iri (quoted iri_byte text s e h); ends = omega arith; some = omega arith; within = omega (arith, leads_within 62 text e mark) }
  where
    x : List ℕ
    x = take_while iri_byte (drop (s + 1) text)

    test : (not (is_nil x) && leads 62 (drop (length x) (drop (s + 1) text))) ≡ true
    test = and_from _ _ (not_from_false _ (some_not_nil x (omega arith))) (after_front 62 iri_byte text (s + 1) e h ∙ sym mark)

pub iri_short : (text : List ℕ) (s e : ℕ) → e ≡ s + 1 + length (take_while iri_byte (drop (s + 1) text)) → e ≤ s + 1 → s < length text → Reads text s (iri_piece (drop (s + 1) text)) record { token = Wrong; start = s; end = s + 1 }
iri_short text s e h none within = as_piece stray _ (cond-false _ _ _ (and_left _ _ (no_more (take_while iri_byte (drop (s + 1) text)) (omega arith)))) (stray_read text s within)
  where
    no_more : (x : List ℕ) → length x ≡ 0 → not (is_nil x) ≡ false
    no_more [] z = refl
    no_more (b ∷ x) z = absurd (omega arith)

pub iri_open : (text : List ℕ) (s e : ℕ) → e ≡ s + 1 + length (take_while iri_byte (drop (s + 1) text)) → false ≡ leads 62 (drop e text) → s < length text → Reads text s (iri_piece (drop (s + 1) text)) record { token = Wrong; start = s; end = s + 1 }
iri_open text s e h mark within = as_piece stray _ (cond-false _ _ _ (and_right _ _ (after_front 62 iri_byte text (s + 1) e h ∙ sym mark))) (stray_read text s within)

pub literal_read : (text : List ℕ) (s e : ℕ) → e ≡ s + 1 + length (take_while literal_byte (drop (s + 1) text)) → true ≡ leads 34 (drop e text) → Reads text s (literal_piece (drop (s + 1) text)) record { token = Literal; start = s; end = e + 1 }
literal_read text s e h mark =
    as_piece (piece (literal (take_while literal_byte (drop (s + 1) text))) (length (take_while literal_byte (drop (s + 1) text)) + 2)) _ (cond-true _ _ _ (after_front 34 literal_byte text (s + 1) e h ∙ sym mark))
    record { begins = refl; says = ap literal (quoted literal_byte text s e h); ends = omega arith; some = omega arith; within = omega (arith, leads_within 34 text e mark) }

pub literal_open : (text : List ℕ) (s e : ℕ) → e ≡ s + 1 + length (take_while literal_byte (drop (s + 1) text)) → false ≡ leads 34 (drop e text) → s < length text → Reads text s (literal_piece (drop (s + 1) text)) record { token = Wrong; start = s; end = s + 1 }
literal_open text s e h mark within = as_piece stray _ (cond-false _ _ _ (after_front 34 literal_byte text (s + 1) e h ∙ sym mark)) (stray_read text s within)

pub name_read : (text : List ℕ) (s e : ℕ) → e ≡ s + 1 + length (take_while word_byte (drop (s + 1) text)) → s + 1 < e → Reads text s (name_piece (drop (s + 1) text)) record { token = Variable; start = s; end = e }
name_read text s e h more =
    as_piece (piece (name x) (length x + 1)) _ (cond-false _ _ _ (some_not_nil x (omega arith)))
    record { begins = refl; says = ap name (ap (part text (s + 1)) (sub-zero e) ∙ part_front word_byte text (s + 1) e h); ends = omega arith; some = omega arith; within = omega (arith, run_fits word_byte (drop (s + 1) text), length-drop (s + 1) text) }
  where
    x : List ℕ
    x = take_while word_byte (drop (s + 1) text)

-- no keyword and no sign holds bytes of its own
abbrev Bare : Word → Type 0
Bare w = (y : List ℕ) → saying (sort w) y ≡ w

either : (b : Bool) (x y : Word) → Bare x → Bare y → Bare (cond b x y)
either true x y h g = h
either false x y h g = g

keyword_bare : (x : List ℕ) → Bare (keyword x)
keyword_bare x = either (same_bytes x (codes "OPTIONAL")) _ _ (λ y. refl) (either (same_bytes x (codes "UNION")) _ _ (λ y. refl) (λ y. refl))

signs_bare : (b : ℕ) → Bare (signs b)
signs_bare b =
    either (eqb b 123) _ _ (λ y. refl) (either (eqb b 125) _ _ (λ y. refl) (either (eqb b 40) _ _ (λ y. refl) (either (eqb b 41) _ _ (λ y. refl)
    (either (eqb b 46) _ _ (λ y. refl) (either (eqb b 124) _ _ (λ y. refl) (either (eqb b 47) _ _ (λ y. refl) (either (eqb b 94) _ _ (λ y. refl)
    (either (eqb b 42) _ _ (λ y. refl) (either (eqb b 33) _ _ (λ y. refl) (λ y. refl))))))))))

pub word_fits : (text : List ℕ) (s e : ℕ) → e ≡ s + length (take_while word_byte (drop s text)) → s < length text → e ≤ length text
word_fits text s e h within = omega (arith, run_fits word_byte (drop s text), length-drop s text)

pub word_read : (text : List ℕ) (s e : ℕ) (t : Token) → e ≡ s + length (take_while word_byte (drop s text)) → s < length text → word_byte (get_or text s 0) ≡ true → t ≡ sort (keyword (part text s e)) → Reads text s (word_piece (drop s text)) record { token = t; start = s; end = e }
word_read text s e t h within b k =
    record {
      begins = refl;
      says = ap (λ u. saying u y) k ∙ keyword_bare (part text s e) y ∙ ap keyword (part_front word_byte text s e h);
      ends = h;
      some = omega (arith, run_some word_byte text s within b);
      within = word_fits text s e h within;
    }
  where
    y : List ℕ
    y = part text (s + 1) (inner record { token = t; start = s; end = e })

pub sign_read : (text : List ℕ) (s : ℕ) (t : Token) (b : ℕ) → s < length text → t ≡ sort (signs b) → Reads text s (piece (signs b) 1) record { token = t; start = s; end = s + 1 }
sign_read text s t b within k =
    record { begins = refl; says = ap (λ u. saying u y) k ∙ signs_bare b y; ends = refl; some = omega arith; within = omega arith }
  where
    y : List ℕ
    y = part text (s + 1) (inner record { token = t; start = s; end = s + 1 })

-- no mark is a byte of a word
no_mark : (b c : ℕ) → word_byte b ≡ true → word_byte c ≡ false → eqb b c ≡ false
no_mark b c h g = ne_eqb b c (λ e. true≢false (sym h ∙ ap word_byte e ∙ g))

pub lexeme_word : (b : ℕ) (bs : List ℕ) → word_byte b ≡ true → lexeme b bs ≡ word_piece (b ∷ bs)
lexeme_word b bs h =
    cond-false _ _ _ (no_mark b 60 h refl) ∙ cond-false _ _ _ (no_mark b 34 h refl) ∙ cond-false _ _ _ (no_mark b 63 h refl) ∙ cond-true _ _ _ h

pub word_at : (text : List ℕ) (s : ℕ) (l : Lexeme) → s < length text → word_byte (get_or text s 0) ≡ true → Reads text s (word_piece (drop s text)) l → Reads text s (lexeme (get_or text s 0) (drop (s + 1) text)) l
word_at text s l h b r = as_piece _ _ (lexeme_word (get_or text s 0) (drop (s + 1) text) b ∙ ap word_piece (sym (drop_more text s 0 h))) r
