-- Tokens of a text from an offset on, one token at a time.
use Rattle.std.proofs.Common.{◌≡◌, ℕ, zero, suc, ◌+◌, ◌-◌, ◌<◌, ◌≤◌, Bool, true, false, cond, List, [], ◌∷◌, length, get_or, take_while, drop, sym, refl, ap, ◌∙◌, ap₂, add-zero, arith}
use Rattle.std.proofs.lemmas.List.{drop_all, drop_more, drop-drop, get_or-drop, length-drop}
use Rattle.std.proofs.lemmas.Bool.{true≢false}
use Rattle.terms.specs.Bytes.{blank_byte}
use Rattle.terms.proofs.Runs.{run_fits, run_ends, run_more, run_none}
use Rattle.tokens.specs.declared.token.Token.TheVariants.{End}
use Rattle.tokens.specs.declared.token.Lexeme.{Lexeme}
use Rattle.tokens.specs.Words.{Word, end}
use Rattle.tokens.specs.Lexed.{Spot, put, cut, lexeme, tokens_from, First}
use Rattle.tokens.specs.Pieces.{Reads}

pub cut_blank : (i b : ℕ) (bs : List ℕ) → blank_byte b ≡ true → cut i zero (b ∷ bs) ≡ cut (i + 1) zero bs
unfolding cut
cut_blank i b bs e = ap (λ t. cond t (cut (i + 1) zero bs) (put i (lexeme b bs).word (cut (i + 1) ((lexeme b bs).size - 1) bs))) e

pub cut_token : (i b : ℕ) (bs : List ℕ) → blank_byte b ≡ false → cut i zero (b ∷ bs) ≡ put i (lexeme b bs).word (cut (i + 1) ((lexeme b bs).size - 1) bs)
unfolding cut
cut_token i b bs e = ap (λ t. cond t (cut (i + 1) zero bs) (put i (lexeme b bs).word (cut (i + 1) ((lexeme b bs).size - 1) bs))) e

pub cut_end : (i : ℕ) → cut i zero [] ≡ put i end []
unfolding cut
cut_end i = refl

-- the bytes of a token are passed over
pub cut_past : (i n : ℕ) (bs : List ℕ) → n ≤ length bs → cut i n bs ≡ cut (i + n) zero (drop n bs)
unfolding cut
cut_past i zero bs h = ap (λ j. cut j zero bs) (sym (add-zero i))
cut_past i (suc n) [] h = absurd (omega arith)
cut_past i (suc n) (b ∷ bs) h =
    let e : i + 1 + n ≡ i + suc n = omega arith in
    cut_past (i + 1) n bs (omega arith) ∙ ap (λ j. cut j zero (drop n bs)) e

-- and so are blanks
pub cut_blanks : (i : ℕ) (bs : List ℕ) → cut i zero bs ≡ cut (i + length (take_while blank_byte bs)) zero (drop (length (take_while blank_byte bs)) bs)
cut_blanks i [] = ap (λ j. cut j zero []) (sym (add-zero i))
cut_blanks i (b ∷ bs) = go (blank_byte b) refl (cut_blanks (i + 1) bs)
  where
    to : List ℕ → List Spot
    to x = cut (i + length x) zero (drop (length x) (b ∷ bs))

    go : (t : Bool) → blank_byte b ≡ t → cut (i + 1) zero bs ≡ cut (i + 1 + length (take_while blank_byte bs)) zero (drop (length (take_while blank_byte bs)) bs) → cut i zero (b ∷ bs) ≡ to (take_while blank_byte (b ∷ bs))
    go true e h =
        let k : i + 1 + length (take_while blank_byte bs) ≡ i + suc (length (take_while blank_byte bs)) = omega arith in
        cut_blank i b bs e ∙ h ∙ ap (λ j. cut j zero (drop (length (take_while blank_byte bs)) bs)) k ∙ sym (ap to (run_more blank_byte b bs e))
    go false e h = ap (λ j. cut j zero (b ∷ bs)) (sym (add-zero i)) ∙ sym (ap to (run_none blank_byte b bs e))

-- after the blanks
from_blanks : (text : List ℕ) (at s : ℕ) → s ≡ at + length (take_while blank_byte (drop at text)) → tokens_from text at ≡ cut s zero (drop s text)
from_blanks text at s e =
    cut_blanks at (drop at text) ∙ ap (cut (at + length (take_while blank_byte (drop at text))) zero) (drop-drop (length (take_while blank_byte (drop at text))) at text)
    ∙ ap (λ j. cut j zero (drop j text)) (sym e)

-- the blanks end within the text
blanks_within : (text : List ℕ) (at s : ℕ) → s ≡ at + length (take_while blank_byte (drop at text)) → at ≤ length text → s ≤ length text
blanks_within text at s e h = omega (arith, run_fits blank_byte (drop at text), length-drop at text)

no_blank : (text : List ℕ) (at s : ℕ) → s ≡ at + length (take_while blank_byte (drop at text)) → s < length text → blank_byte (get_or text s 0) ≡ false
no_blank text at s e h =
    let n = length (take_while blank_byte (drop at text)) in
    ap (λ j. blank_byte (get_or text j 0)) e ∙ ap blank_byte (sym (get_or-drop at text n 0)) ∙ run_ends blank_byte (drop at text) (omega (arith, length-drop at text))

pub first_end : (text : List ℕ) (at s : ℕ) → s ≡ at + length (take_while blank_byte (drop at text)) → length text ≤ s → First text at record { token = End; start = s; end = s }
first_end text at s e h = record {
  stream = from_blanks text at s e ∙ ap (cut s zero) (drop_all s text h) ∙ cut_end s;
  forward = omega arith;
  within = blanks_within text at s e;
  long = λ f. absurd (true≢false f);
  last = omega arith;
}

pub first_token : (text : List ℕ) (at s : ℕ) (l : Lexeme) → s ≡ at + length (take_while blank_byte (drop at text)) → s < length text → Reads text s (lexeme (get_or text s 0) (drop (s + 1) text)) l → First text at l
first_token text at s l e h r = record {
  stream =
      from_blanks text at s e ∙ ap (cut s zero) (drop_more text s 0 h) ∙ cut_token s (get_or text s 0) (drop (s + 1) text) (no_blank text at s e h)
      ∙ ap (put s w) after ∙ ap₂ (λ i x. put i x (tokens_from text l.end)) (sym r.begins) (sym r.says);
  forward = omega (arith, r.begins);
  within = λ k. r.within;
  long = λ f. omega (arith, r.begins, r.some);
  last = omega (arith, r.begins, r.some);
}
  where
    w : Word
    w = (lexeme (get_or text s 0) (drop (s + 1) text)).word

    n : ℕ
    n = (lexeme (get_or text s 0) (drop (s + 1) text)).size

    ends : s + 1 + (n - 1) ≡ l.end
    ends = omega (arith, r.ends, r.some)

    after : cut (s + 1) (n - 1) (drop (s + 1) text) ≡ tokens_from text l.end
    after =
        cut_past (s + 1) (n - 1) (drop (s + 1) text) (omega (arith, r.ends, r.some, r.within, length-drop (s + 1) text))
        ∙ ap (cut (s + 1 + (n - 1)) zero) (drop-drop (n - 1) (s + 1) text) ∙ ap (λ j. cut j zero (drop j text)) ends
