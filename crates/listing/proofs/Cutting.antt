-- A text that is cut again.
use Rattle.std.proofs.Common.{◌≡◌, ℕ, zero, suc, ◌+◌, ◌%◌, ◌^◌, ◌<◌, Bool, true, false, eqb, ltb, not, ◌&&◌, ◌||◌, List, [], ◌∷◌, ◌++◌, map, length, take, Some, codes, decimal, sym, refl, ap, ap₂, ◌∙◌, append_assoc, append-nil, arith, ltb-true}
use Rattle.std.specs.List.{flat_map, list_all}
use Rattle.std.proofs.lemmas.Bool.{and_parts, and_from, cond-false, ne_eqb, not-true, not_from_false, or_from, or_parts, true≢false}
use Rattle.std.proofs.lemmas.List.Folds.{list_all-append}
use Rattle.std.proofs.lemmas.Fmt.{decimal_by_steps, decimal_digit}
use Rattle.std.proofs.lemmas.List.{length-append, length-map, length-take-le, take_at}
use Rattle.terms.specs.Bytes.{iri_byte, literal_byte}
use Rattle.terms.specs.Lawful.{fitting, lawful}
use Rattle.terms.specs.Terms.{Term}
use Rattle.terms.specs.declared.kind.Kind.TheVariants.{Iri, Literal}
use Rattle.grammar.specs.Grammar.{Name}
use Rattle.tables.specs.declared.entry.Entry.{Entry}
use Rattle.lexicon.specs.Numbering.{term}
use Rattle.listing.specs.Text.{joined, line, name_text, heading, term_text, place_text, row_parts}
use Rattle.listing.specs.Laws.{cut, lines_of, whole, whole_terms, weights_fit, TextTellsItsParts, OneLineMoreThanRows, LawfulTermsAreWhole, TextEndsWithItsLine, NoRowsAreOneLine, FirstLineIsOfNames, RowsHaveThePartsOfTheHeading, ExampleReads}

-- ---- a part, a line, and all lines

stays : (b : ℕ) → not (eqb b 9 || eqb b 10) ≡ true → (eqb b 9 ≡ false) × (eqb b 10 ≡ false)
stays b h = or_parts (eqb b 9) (eqb b 10) (not-true (eqb b 9 || eqb b 10) h)

cut_part : (before : List (List ℕ)) (part x rest : List ℕ) → whole x ≡ true → cut before part (x ++ rest) ≡ cut before (part ++ x) rest
cut_part before part [] rest h = sym (ap (λ p. cut before p rest) (append-nil part))
cut_part before part (b ∷ x) rest h =
    let s = and_parts (not (eqb b 9 || eqb b 10)) (whole x) h in
    let n = stays b s.0 in
    cond-false (eqb b 10) _ _ n.1 ∙ cond-false (eqb b 9) _ _ n.0
    ∙ cut_part before (part ++ b ∷ []) x rest s.1
    ∙ ap (λ p. cut before p rest) (append_assoc part (b ∷ []) x)

cut_joined : (before : List (List ℕ)) (x : List ℕ) (xs : List (List ℕ)) (rest : List ℕ) → list_all whole (x ∷ xs) ≡ true → cut before [] (joined (x ∷ xs) ++ 10 ∷ rest) ≡ (before ++ x ∷ xs) ∷ cut [] [] rest
cut_joined before x [] rest h = cut_part before [] x (10 ∷ rest) (and_parts (whole x) true h).0
cut_joined before x (y ∷ ys) rest h =
    let s = and_parts (whole x) (list_all whole (y ∷ ys)) h in
    ap (cut before []) (append_assoc x (9 ∷ joined (y ∷ ys)) (10 ∷ rest))
    ∙ cut_part before [] x (9 ∷ (joined (y ∷ ys) ++ 10 ∷ rest)) s.0
    ∙ cut_joined (before ++ x ∷ []) y ys rest s.1
    ∙ ap (λ l. l ∷ cut [] [] rest) (append_assoc before (x ∷ []) (y ∷ ys))

-- a line has a part at least
cut_line : (xs : List (List ℕ)) (last rest : List ℕ) → list_all whole (xs ++ last ∷ []) ≡ true → lines_of (line (xs ++ last ∷ []) ++ rest) ≡ (xs ++ last ∷ []) ∷ lines_of rest
cut_line [] last rest h = ap (cut [] []) (append_assoc last (10 ∷ []) rest) ∙ cut_joined [] last [] rest h
cut_line (x ∷ xs) last rest h =
    ap (cut [] []) (append_assoc (joined (x ∷ (xs ++ last ∷ []))) (10 ∷ []) rest) ∙ cut_joined [] x (xs ++ last ∷ []) rest h

-- ---- parts are whole

whole_more : (x y : List ℕ) → whole x ≡ true → whole y ≡ true → whole (x ++ y) ≡ true
whole_more x y h g = list_all-append (λ b. not (eqb b 9 || eqb b 10)) x y ∙ and_from (whole x) (whole y) h g

parts_whole : (xs : List (List ℕ)) (last : List ℕ) → list_all whole xs ≡ true → whole last ≡ true → list_all whole (xs ++ last ∷ []) ≡ true
parts_whole xs last h g = list_all-append whole xs (last ∷ []) ∙ and_from (list_all whole xs) (whole last && true) h (and_from (whole last) true g refl)

names_whole : (names : List Name) → list_all whole names ≡ true → list_all whole (map name_text names) ≡ true
names_whole [] h = refl
names_whole (x ∷ xs) h =
    let s = and_parts (whole x) (list_all whole xs) h in
    and_from (whole (name_text x)) (list_all whole (map name_text xs)) s.0 (names_whole xs s.1)

spelled_whole : (t : Term) → whole t.bytes ≡ true → whole (term_text (Some t)) ≡ true
spelled_whole t h = go t.kind
  where
    go : (k : _) → whole (term_text (Some (record { kind = k; bytes = t.bytes }))) ≡ true
    go Iri = whole_more t.bytes (62 ∷ []) h refl
    go Literal = whole_more t.bytes (34 ∷ []) h refl

place_whole : (terms : List Term) (n : ℕ) → whole_terms terms ≡ true → whole (place_text terms n) ≡ true
place_whole [] n h = refl
place_whole (t ∷ ts) zero h = refl
place_whole (t ∷ ts) (suc zero) h = spelled_whole t (and_parts (whole t.bytes) (whole_terms ts) h).0
place_whole (t ∷ ts) (suc (suc n)) h = place_whole ts (suc n) (and_parts (whole t.bytes) (whole_terms ts) h).1

places_whole : (terms : List Term) (ns : List ℕ) → whole_terms terms ≡ true → list_all whole (map (place_text terms) ns) ≡ true
places_whole terms [] h = refl
places_whole terms (n ∷ ns) h = and_from (whole (place_text terms n)) (list_all whole (map (place_text terms) ns)) (place_whole terms n h) (places_whole terms ns h)

digit_whole : (d : ℕ) → whole ((48 + d) ∷ []) ≡ true
digit_whole d =
    let other : eqb (48 + d) 9 || eqb (48 + d) 10 ≡ false =
    or_from (eqb (48 + d) 9) (eqb (48 + d) 10) (ne_eqb (48 + d) 9 (λ e. omega (arith, e))) (ne_eqb (48 + d) 10 (λ e. omega (arith, e))) in
    and_from (not (eqb (48 + d) 9 || eqb (48 + d) 10)) true (not_from_false (eqb (48 + d) 9 || eqb (48 + d) 10) other) refl

decimal_whole : (n : ℕ) → n < 2 ^ 64 → whole (decimal n) ≡ true
decimal_whole n h = decimal_by_steps (λ k ds. whole ds ≡ true) (λ k l. digit_whole k) (λ k ds l w. whole_more ds ((48 + k % 10) ∷ []) w (digit_whole (k % 10))) n h

-- ---- the text

cut_rows : (names : List Name) (terms : List Term) (rows : List Entry) → whole_terms terms ≡ true → weights_fit rows ≡ true → lines_of (flat_map line (map (row_parts names terms) rows)) ≡ map (row_parts names terms) rows
cut_rows names terms [] h w = refl
cut_rows names terms (e ∷ es) h w =
    let f = row_parts names terms in
    let s = and_parts (ltb e.weight (2 ^ 32)) (weights_fit es) w in
    let places = take (length names) e.row.places in
    let all = parts_whole (map (place_text terms) places) (decimal e.weight) (places_whole terms places h) (decimal_whole e.weight (omega (arith, ltb-true e.weight (2 ^ 32) s.0))) in
    cut_line (map (place_text terms) places) (decimal e.weight) (flat_map line (map f es)) all ∙ ap (λ l. f e ∷ l) (cut_rows names terms es h s.1)

pub text_tells : TextTellsItsParts
text_tells names rows terms h g w =
    cut_line (map name_text names) (codes "weight") (flat_map line (map (row_parts names terms) rows)) (parts_whole (map name_text names) (codes "weight") (names_whole names h) refl)
    ∙ ap (λ l. heading names ∷ l) (cut_rows names terms rows g w)

pub one_line_more : OneLineMoreThanRows
one_line_more names rows terms h g w = omega (arith, ap length (text_tells names rows terms h g w), length-map rows (row_parts names terms))

-- ---- terms that may occur

pub whole_by : (p : ℕ → Bool) → p 9 ≡ false → p 10 ≡ false → (x : List ℕ) → list_all p x ≡ true → whole x ≡ true
whole_by p h g [] all = refl
whole_by p h g (b ∷ x) all =
    let s = and_parts (p b) (list_all p x) all in
    let other : eqb b 9 || eqb b 10 ≡ false =
    or_from (eqb b 9) (eqb b 10) (ne_eqb b 9 (λ e. true≢false (sym s.0 ∙ ap p e ∙ h))) (ne_eqb b 10 (λ e. true≢false (sym s.0 ∙ ap p e ∙ g))) in
    and_from (not (eqb b 9 || eqb b 10)) (whole x) (not_from_false (eqb b 9 || eqb b 10) other) (whole_by p h g x s.1)

pub lawful_whole : LawfulTermsAreWhole
lawful_whole t h = go t.kind h
  where
    go : (k : _) → lawful (record { kind = k; bytes = t.bytes }) ≡ true → whole t.bytes ≡ true
    go Iri l = whole_by iri_byte refl refl t.bytes (and_parts (fitting Iri (length t.bytes)) (list_all iri_byte t.bytes) l).1
    go Literal l = whole_by literal_byte refl refl t.bytes (and_parts (fitting Literal (length t.bytes)) (list_all literal_byte t.bytes) l).1

-- ---- of every text

lines_end : (h : List (List ℕ)) (xs : List (List (List ℕ))) → (x : List ℕ) × (line h ++ flat_map line xs ≡ x ++ 10 ∷ [])
lines_end h [] = (joined h, append-nil (line h))
lines_end h (y ∷ ys) =
    let r = lines_end y ys in
    (line h ++ r.0, ap (λ l. line h ++ l) r.1 ∙ sym (append_assoc (line h) r.0 (10 ∷ [])))

pub text_ends : TextEndsWithItsLine
text_ends names rows terms = lines_end (heading names) (map (row_parts names terms) rows)

pub no_rows : NoRowsAreOneLine
no_rows names terms = append-nil (line (heading names))

pub first_line : FirstLineIsOfNames
first_line names rows terms = take_at (line (heading names)) (flat_map line (map (row_parts names terms) rows)) (length (line (heading names))) refl

pub rows_even : RowsHaveThePartsOfTheHeading
rows_even names terms e h =
    let places = take (length names) e.row.places in
    omega (
      arith,
      length-append (map (place_text terms) places) (decimal e.weight ∷ []),
      length-map places (place_text terms),
      length-take-le (length names) e.row.places h,
      length-append (map name_text names) (codes "weight" ∷ []),
      length-map names name_text,
    )

pub example_reads : ExampleReads
example_reads e places weight =
    let terms = term Literal (codes "10u") ∷ [] in
    let text_of = λ (ns : List ℕ) (x : List ℕ). line (heading (codes "v" ∷ [])) ++ (line (map (place_text terms) (take 1 ns) ++ x ∷ []) ++ []) in
    ap₂ text_of places (ap decimal weight ∙ decimal_digit 2 (omega arith))
