-- The piece at the take_while of some bytes is the word that is spelled there.
use Rattle.std.proofs.Common.{◌≡◌, ℕ, suc, ◌+◌, ◌-◌, ◌<◌, ◌≤◌, Bool, true, false, cond, not, ◌&&◌, eqb, ◌⊎◌, List, [], ◌∷◌, ◌++◌, length, get_or, take, take_while, drop, codes, sym, refl, ap, ◌∙◌, subst, ap₂, inl, inr, add-one, arith}
use Rattle.std.specs.List.{list_all}
use Rattle.std.proofs.lemmas.List.{append_assoc, length_push, take_more, drop_at}
use Rattle.std.proofs.lemmas.Bool.{cond-true, cond-false, cond_both, and_from, and_parts, not-true, not_from_false, eqb-true, eq-eqb, true≢false}
use Rattle.std.proofs.lemmas.Slice.Eq.{bytes_eq-Decides}
use Rattle.terms.specs.Bytes.{blank_byte, iri_byte, leads, literal_byte, word_byte}
use Rattle.terms.proofs.Runs.{run_fits, run_take, run_all, run_more, run_none, run_whole}
use Rattle.tokens.specs.Words.{Word, iri, literal, name, open_brace, close_brace, open_paren, close_paren, dot, bar, slash, caret, star, bang, optional, union, wrong, end}
use Rattle.tokens.specs.Lexed.{Piece, piece, stray, is_nil, same_bytes, final, iri_piece, literal_piece, name_piece, keyword, word_piece, signs, lexeme}
use Rattle.tokens.specs.Laid.{Filled, Stops, Spells}
use Rattle.tokens.proofs.Lists.{leads_here, leads_within}

-- ---- runs

pub run_stops : (p : ℕ → Bool) (bs : List ℕ) → Stops p (drop (length (take_while p bs)) bs)
run_stops p [] = tt
run_stops p (b ∷ bs) = go (p b) refl (run_stops p bs)
  where
    after : List ℕ → Type 0
    after x = Stops p (drop (length x) (b ∷ bs))

    go : (t : Bool) → p b ≡ t → Stops p (drop (length (take_while p bs)) bs) → after (take_while p (b ∷ bs))
    go true e h = subst after (sym (run_more p b bs e)) h
    go false e h = subst after (sym (run_none p b bs e)) e

run_before_stop : (p : ℕ → Bool) (x rest : List ℕ) → list_all p x ≡ true → Stops p rest → take_while p (x ++ rest) ≡ x
run_before_stop p x [] h g = run_whole p x [] h refl
run_before_stop p x (b ∷ rest) h g = run_whole p x (b ∷ rest) h (run_none p b rest g)

-- ---- a word that is spelled is read

-- where the word x is spelled, the piece there is x with as many bytes
pub record Taken (x : Word) (body rest : List ℕ) : Type 0 where
  pub head : ℕ
  pub more : List ℕ
  pub body_is : body ≡ head ∷ more
  pub dark : blank_byte head ≡ false
  pub reads : lexeme head (more ++ rest) ≡ piece x (suc (length more))
  pub goes : final x ≡ false

filled_not_nil : (x : List ℕ) → Filled x → is_nil x ≡ false
filled_not_nil [] h = absurd h
filled_not_nil (b ∷ x) h = refl

-- a run up to its last mark
marked : (x : List ℕ) (c : ℕ) (rest : List ℕ) → leads c (drop (length x) (x ++ (c ∷ rest))) ≡ true
marked x c rest = ap (leads c) (drop_at x (c ∷ rest) (length x) refl) ∙ eq-eqb c c refl

take_iri : (x rest : List ℕ) → Filled x → list_all iri_byte x ≡ true → iri_piece (x ++ (62 ∷ rest)) ≡ piece (iri x) (length x + 2)
take_iri x rest f h =
    ap (λ y. cond (not (is_nil y) && leads 62 (drop (length y) (x ++ (62 ∷ rest)))) (piece (iri y) (length y + 2)) stray) (run_before_stop iri_byte x (62 ∷ rest) h refl)
    ∙ cond-true _ _ _ (and_from _ _ (not_from_false _ (filled_not_nil x f)) (marked x 62 rest))

take_literal : (x rest : List ℕ) → list_all literal_byte x ≡ true → literal_piece (x ++ (34 ∷ rest)) ≡ piece (literal x) (length x + 2)
take_literal x rest h =
    ap (λ y. cond (leads 34 (drop (length y) (x ++ (34 ∷ rest)))) (piece (literal y) (length y + 2)) stray) (run_before_stop literal_byte x (34 ∷ rest) h refl)
    ∙ cond-true _ _ _ (marked x 34 rest)

take_name : (x rest : List ℕ) → Filled x → list_all word_byte x ≡ true → Stops word_byte rest → name_piece (x ++ rest) ≡ piece (name x) (length x + 1)
take_name x rest f h g =
    ap (λ y. cond (is_nil y) stray (piece (name y) (length y + 1))) (run_before_stop word_byte x rest h g)
    ∙ cond-false _ _ _ (filled_not_nil x f)

take_word : (x rest : List ℕ) → list_all word_byte x ≡ true → Stops word_byte rest → word_piece (x ++ rest) ≡ piece (keyword x) (length x)
take_word x rest h g = ap (λ y. piece (keyword y) (length y)) (run_before_stop word_byte x rest h g)

-- the rest after a last mark, and the bytes of both marks
after_mark : (x : List ℕ) (c : ℕ) (rest : List ℕ) → (x ++ (c ∷ [])) ++ rest ≡ x ++ (c ∷ rest)
after_mark x c rest = append_assoc x (c ∷ []) rest

two_marks : (x : List ℕ) (c : ℕ) → length x + 2 ≡ suc (length (x ++ (c ∷ [])))
two_marks x c = omega (arith, length_push x c)

sign : (x : Word) (c : ℕ) (body rest : List ℕ) → body ≡ c ∷ [] → blank_byte c ≡ false → lexeme c rest ≡ piece x 1 → final x ≡ false → Taken x body rest
sign x c body rest e d r f = record { head = c; more = []; body_is = e; dark = d; reads = r; goes = f }

pub spelled : (x : Word) (body rest : List ℕ) → Spells x body rest → Taken x body rest
spelled (iri x) body rest h = record {
  head = 60;
  more = x ++ (62 ∷ []);
  body_is = h.0;
  dark = refl;
  reads = ap iri_piece (after_mark x 62 rest) ∙ take_iri x rest h.1 h.2 ∙ ap (piece (iri x)) (two_marks x 62);
  goes = refl;
}
spelled (literal x) body rest h = record {
  head = 34;
  more = x ++ (34 ∷ []);
  body_is = h.0;
  dark = refl;
  reads = ap literal_piece (after_mark x 34 rest) ∙ take_literal x rest h.1 ∙ ap (piece (literal x)) (two_marks x 34);
  goes = refl;
}
spelled (name x) body rest h = record {
  head = 63;
  more = x;
  body_is = h.0;
  dark = refl;
  reads = take_name x rest h.1 h.2 h.3 ∙ ap (piece (name x)) (add-one (length x));
  goes = refl;
}
spelled optional body rest h = record {
  head = 79;
  more = codes "PTIONAL";
  body_is = h.0;
  dark = refl;
  reads = take_word (codes "OPTIONAL") rest refl h.1;
  goes = refl;
}
spelled union body rest h = record {
  head = 85;
  more = codes "NION";
  body_is = h.0;
  dark = refl;
  reads = take_word (codes "UNION") rest refl h.1;
  goes = refl;
}
spelled open_brace body rest h = sign open_brace 123 body rest h refl refl refl
spelled close_brace body rest h = sign close_brace 125 body rest h refl refl refl
spelled open_paren body rest h = sign open_paren 40 body rest h refl refl refl
spelled close_paren body rest h = sign close_paren 41 body rest h refl refl refl
spelled dot body rest h = sign dot 46 body rest h refl refl refl
spelled bar body rest h = sign bar 124 body rest h refl refl refl
spelled slash body rest h = sign slash 47 body rest h refl refl refl
spelled caret body rest h = sign caret 94 body rest h refl refl refl
spelled star body rest h = sign star 42 body rest h refl refl refl
spelled bang body rest h = sign bang 33 body rest h refl refl refl
spelled wrong body rest h = absurd h
spelled end body rest h = absurd h

-- ---- a word that is read is spelled

-- the word of a piece that begins with b is spelled there
pub record Spelt (b : ℕ) (bs : List ℕ) (p : Piece) : Type 0 where
  pub some : 1 ≤ p.size
  pub within : p.size - 1 ≤ length bs
  pub spells : Spells p.word (b ∷ take (p.size - 1) bs) (drop (p.size - 1) bs)

abbrev pub Read : ℕ → List ℕ → Piece → Type 0
Read b bs p = (p.word ≡ wrong) ⊎ Spelt b bs p

-- a run of n bytes after the first, and what is left
by_size : (b : ℕ) (bs : List ℕ) (x : Word) (n size : ℕ) → size ≡ n + 1 → n ≤ length bs → Spells x (b ∷ take n bs) (drop n bs) → Read b bs (piece x size)
by_size b bs x n size e h s =
    let k : n ≡ size - 1 = omega arith in
    inr record { some = omega arith; within = omega arith; spells = subst (λ m. Spells x (b ∷ take m bs) (drop m bs)) k s }

-- a run and the mark after it
take_marked : (p : ℕ → Bool) (c : ℕ) (bs : List ℕ) → leads c (drop (length (take_while p bs)) bs) ≡ true → take (length (take_while p bs) + 1) bs ≡ take_while p bs ++ (c ∷ [])
take_marked p c bs e =
    let n = length (take_while p bs) in
    let h : n < length bs = leads_within c bs n (sym e) in
    take_more bs n 0 h ∙ ap₂ (λ x b. x ++ (b ∷ [])) (run_take p bs) (eqb-true (get_or bs n 0) c (leads_here c bs n h ∙ e))

nil_filled : (x : List ℕ) → is_nil x ≡ false → Filled x
nil_filled [] e = absurd (true≢false e)
nil_filled (b ∷ x) e = tt

read_iri : (b : ℕ) (bs : List ℕ) → b ≡ 60 → Read b bs (iri_piece bs)
read_iri b bs is = cond_both _ _ _ (Read b bs) closed (λ e. inl refl)
  where
    x : List ℕ
    x = take_while iri_byte bs

    closed : (not (is_nil x) && leads 62 (drop (length x) bs)) ≡ true → Read b bs (piece (iri x) (length x + 2))
    closed e =
        let two = and_parts _ _ e in
        by_size b bs (iri x) (length x + 1) (length x + 2) (omega arith) (omega (arith, leads_within 62 bs (length x) (sym two.1)))
        (ap₂ (λ c y. c ∷ y) is (take_marked iri_byte 62 bs two.1), nil_filled x (not-true _ two.0), run_all iri_byte bs)

read_literal : (b : ℕ) (bs : List ℕ) → b ≡ 34 → Read b bs (literal_piece bs)
read_literal b bs is = cond_both _ _ _ (Read b bs) closed (λ e. inl refl)
  where
    x : List ℕ
    x = take_while literal_byte bs

    closed : leads 34 (drop (length x) bs) ≡ true → Read b bs (piece (literal x) (length x + 2))
    closed e =
        by_size b bs (literal x) (length x + 1) (length x + 2) (omega arith) (omega (arith, leads_within 34 bs (length x) (sym e)))
        (ap₂ (λ c y. c ∷ y) is (take_marked literal_byte 34 bs e), run_all literal_byte bs)

read_name : (b : ℕ) (bs : List ℕ) → b ≡ 63 → Read b bs (name_piece bs)
read_name b bs is = cond_both _ _ _ (Read b bs) (λ e. inl refl) some
  where
    x : List ℕ
    x = take_while word_byte bs

    some : is_nil x ≡ false → Read b bs (piece (name x) (length x + 1))
    some e =
        by_size b bs (name x) (length x) (length x + 1) refl (run_fits word_byte bs)
        (ap₂ (λ c y. c ∷ y) is (run_take word_byte bs), nil_filled x e, run_all word_byte bs, run_stops word_byte bs)

read_word : (b : ℕ) (bs : List ℕ) → word_byte b ≡ true → Read b bs (word_piece (b ∷ bs))
read_word b bs h =
    subst (λ x. Read b bs (piece (keyword x) (length x))) (sym (run_more word_byte b bs h))
    (go (same_bytes (b ∷ y) (codes "OPTIONAL")) (same_bytes (b ∷ y) (codes "UNION")) (bytes_eq-Decides (b ∷ y) (codes "OPTIONAL")).0 (bytes_eq-Decides (b ∷ y) (codes "UNION")).0)
  where
    y : List ℕ
    y = take_while word_byte bs

    whole : (w : List ℕ) → b ∷ y ≡ w → (b ∷ take (length y) bs ≡ w) × Stops word_byte (drop (length y) bs)
    whole w e = (ap (λ z. b ∷ z) (run_take word_byte bs) ∙ e, run_stops word_byte bs)

    go : (s t : Bool) → (s ≡ true → b ∷ y ≡ codes "OPTIONAL") → (t ≡ true → b ∷ y ≡ codes "UNION") → Read b bs (piece (cond s optional (cond t union wrong)) (suc (length y)))
    go true t k m = by_size b bs optional (length y) _ (omega arith) (run_fits word_byte bs) (whole _ (k refl))
    go false true k m = by_size b bs union (length y) _ (omega arith) (run_fits word_byte bs) (whole _ (m refl))
    go false false k m = inl refl

read_sign : (b : ℕ) (bs : List ℕ) → Read b bs (piece (signs b) 1)
read_sign b bs =
    may 123 open_brace _ (λ e. e) (may 125 close_brace _ (λ e. e) (may 40 open_paren _ (λ e. e) (may 41 close_paren _ (λ e. e) (may 46 dot _ (λ e. e)
    (may 124 bar _ (λ e. e) (may 47 slash _ (λ e. e) (may 94 caret _ (λ e. e) (may 42 star _ (λ e. e) (may 33 bang wrong (λ e. e) (inl refl))))))))))
  where
    may : (c : ℕ) (x y : Word) → (b ∷ [] ≡ c ∷ [] → Spells x (b ∷ []) bs) → Read b bs (piece y 1) → Read b bs (piece (cond (eqb b c) x y) 1)
    may c x y s other =
        cond_both (eqb b c) x y (λ w. Read b bs (piece w 1)) (λ e. by_size b bs x 0 1 refl (omega arith) (s (ap (λ d. d ∷ []) (eqb-true b c e)))) (λ e. other)

pub read : (b : ℕ) (bs : List ℕ) → Read b bs (lexeme b bs)
read b bs =
    cond_both (eqb b 60) _ _ (Read b bs) (λ e. read_iri b bs (eqb-true b 60 e)) (λ _.
    cond_both (eqb b 34) _ _ (Read b bs) (λ e. read_literal b bs (eqb-true b 34 e)) (λ _.
    cond_both (eqb b 63) _ _ (Read b bs) (λ e. read_name b bs (eqb-true b 63 e)) (λ _.
    cond_both (word_byte b) _ _ (Read b bs) (read_word b bs) (λ _. read_sign b bs))))
