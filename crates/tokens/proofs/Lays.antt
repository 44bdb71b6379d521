-- The tokens that are cut from bytes lay them out, and nothing else does.
use Rattle.std.proofs.Common.{◌≡◌, ℕ, zero, suc, ◌+◌, ◌-◌, ◌≤◌, true, false, cond, ◌⊎◌, List, [], ◌∷◌, ◌++◌, length, take, drop, sym, refl, ap, ◌∙◌, subst, ap₂, inl, inr, add-zero, arith}
use Rattle.std.specs.List.{list_all}
use Rattle.std.proofs.lemmas.List.{take-append-drop, length-take-le, length-append, drop_at}
use Rattle.std.proofs.lemmas.Bool.{true≢false, and_from, and_parts, cond_both}
use Rattle.terms.specs.Bytes.{blank_byte}
use Rattle.tokens.specs.Words.{Word, wrong, end}
use Rattle.tokens.specs.Lexed.{Spot, final, put, cut, lexeme}
use Rattle.tokens.specs.Laid.{Spells, Stray, Laid, EveryTextIsLaid, LaidOnce}
use Rattle.tokens.proofs.Cuts.{cut_blank, cut_token, cut_end, cut_past}
use Rattle.tokens.proofs.Spelled.{Taken, spelled, Read, read}

-- a word that is not the last has the others after it
put_goes : (i : ℕ) (x : Word) (v : List Spot) → final x ≡ false → put i x v ≡ record { at = i; word = x } ∷ v
put_goes i x v e = ap (λ t. record { at = i; word = x } ∷ cond t [] v) e

-- ---- what is laid out is cut

cut_gap : (gap tail : List ℕ) (i : ℕ) → list_all blank_byte gap ≡ true → cut i zero (gap ++ tail) ≡ cut (i + length gap) zero tail
cut_gap [] tail i h = ap (λ j. cut j zero tail) (sym (add-zero i))
cut_gap (b ∷ gap) tail i h =
    let e : i + 1 + length gap ≡ i + suc (length gap) = omega arith in
    let two = and_parts _ _ h in
    cut_blank i b (gap ++ tail) two.0 ∙ cut_gap gap tail (i + 1) two.1 ∙ ap (λ j. cut j zero tail) e

-- where the word x is spelled, it is cut
cut_spelled : (i : ℕ) (x : Word) (body rest : List ℕ) → Taken x body rest → cut i zero (body ++ rest) ≡ record { at = i; word = x } ∷ cut (i + length body) zero rest
cut_spelled i x body rest t =
    ap (λ y. cut i zero (y ++ rest)) t.body_is ∙ cut_token i t.head (t.more ++ rest) t.dark
    ∙ ap (λ p. put i p.word (cut (i + 1) (p.size - 1) (t.more ++ rest))) t.reads
    ∙ put_goes i x _ t.goes ∙ ap (λ v. record { at = i; word = x } ∷ v) after
  where
    n : ℕ
    n = length t.more

    after : cut (i + 1) (suc n - 1) (t.more ++ rest) ≡ cut (i + length body) zero rest
    after =
        let one : suc n - 1 ≡ n = omega arith in
        let here : i + 1 + n ≡ i + length body = omega (arith, ap length t.body_is) in
        ap (λ k. cut (i + 1) k (t.more ++ rest)) one ∙ cut_past (i + 1) n (t.more ++ rest) (omega (arith, length-append t.more rest))
        ∙ ap₂ (λ j r. cut j zero r) here (drop_at t.more rest n refl)

-- no word is read from stray bytes
stray_wrong : (b : ℕ) (bs : List ℕ) → Stray (b ∷ bs) → (lexeme b bs).word ≡ wrong
stray_wrong b bs h = go (read b bs)
  where
    go : Read b bs (lexeme b bs) → (lexeme b bs).word ≡ wrong
    go (inl e) = e
    go (inr s) = absurd (h.2 _ _ _ (ap (λ r. b ∷ r) (sym (take-append-drop ((lexeme b bs).size - 1) bs))) s.spells)

cut_stray : (i : ℕ) (bs : List ℕ) → Stray bs → cut i zero bs ≡ record { at = i; word = wrong } ∷ []
cut_stray i [] h = absurd h.0
cut_stray i (b ∷ bs) h = cut_token i b bs h.1 ∙ ap (λ x. put i x (cut (i + 1) ((lexeme b bs).size - 1) bs)) (stray_wrong b bs h)

spot_is : (s : Spot) (i : ℕ) (x : Word) (v u : List Spot) → s.at ≡ i → s.word ≡ x → v ≡ u → s ∷ v ≡ record { at = i; word = x } ∷ u
spot_is s i x v u e f g = ap₂ (λ j y. record { at = j; word = y } ∷ v) e f ∙ ap (λ w. record { at = i; word = x } ∷ w) g

pub laid_cut : (v : List Spot) (i : ℕ) (bs : List ℕ) → Laid i bs v → v ≡ cut i zero bs
laid_cut [] i bs h = absurd h
laid_cut (s ∷ v) i bs h = go h.5 (laid_cut v) ∙ sym (ap (cut i zero) h.2 ∙ cut_gap h.0 h.1 i h.3)
  where
    j : ℕ
    j = i + length h.0

    tail : List ℕ
    tail = h.1

    go : ((s.word ≡ end) × (tail ≡ []) × (v ≡ [])) ⊎ ((s.word ≡ wrong) × Stray tail × (v ≡ [])) ⊎ ((body : List ℕ) × (rest : List ℕ) × (tail ≡ body ++ rest) × Spells s.word body rest × Laid (s.at + length body) rest v) → ((i : ℕ) (bs : List ℕ) → Laid i bs v → v ≡ cut i zero bs) → s ∷ v ≡ cut j zero tail
    go (inl w) ih = spot_is s j end v [] h.4 w.0 w.2 ∙ sym (ap (cut j zero) w.1 ∙ cut_end j)
    go (inr (inl w)) ih = spot_is s j wrong v [] h.4 w.0 w.2 ∙ sym (cut_stray j tail w.1)
    go (inr (inr w)) ih =
        spot_is s j s.word v (cut (j + length w.0) zero w.1) h.4 refl (ih _ w.1 w.4 ∙ ap (λ k. cut (k + length w.0) zero w.1) h.4)
        ∙ sym (ap (cut j zero) w.2 ∙ cut_spelled j s.word w.0 w.1 (spelled s.word w.0 w.1 w.3))

pub laid_once : LaidOnce
laid_once i bs v u h g = laid_cut v i bs h ∙ sym (laid_cut u i bs g)

-- ---- what is cut is laid out

-- one blank more in front
laid_blank : (v : List Spot) (i b : ℕ) (bs : List ℕ) → blank_byte b ≡ true → Laid (i + 1) bs v → Laid i (b ∷ bs) v
laid_blank [] i b bs e h = absurd h
laid_blank (s ∷ v) i b bs e h = (b ∷ h.0, h.1, ap (λ r. b ∷ r) h.2, and_from _ _ e h.3, omega (arith, h.4), h.5)

-- where the piece is wrong, no word is spelled
none_spelled : (b : ℕ) (bs : List ℕ) → (lexeme b bs).word ≡ wrong → (x : Word) (body rest : List ℕ) → b ∷ bs ≡ body ++ rest → Spells x body rest → ⊥
none_spelled b bs w x body rest e h =
    let t = spelled x body rest h in
    let f : b ∷ bs ≡ t.head ∷ (t.more ++ rest) = e ∙ ap (λ y. y ++ rest) t.body_is in
    let hd : b ≡ t.head = cc in
    let tl : bs ≡ t.more ++ rest = cc in
    let x-is : x ≡ wrong = sym (ap₂ (λ c cs. (lexeme c cs).word) hd tl ∙ ap (λ p. p.word) t.reads) ∙ w in
    true≢false (sym (ap final x-is) ∙ t.goes)

-- the token at a byte that is no blank, and the tokens after it
laid_token : (i b : ℕ) (bs : List ℕ) → blank_byte b ≡ false → ((n : ℕ) → n ≤ length bs → Laid (i + 1 + n) (drop n bs) (cut (i + 1) n bs)) → Laid i (b ∷ bs) (put i (lexeme b bs).word (cut (i + 1) ((lexeme b bs).size - 1) bs))
laid_token i b bs d after = go (read b bs)
  where
    m : ℕ
    m = (lexeme b bs).size - 1

    x : Word
    x = (lexeme b bs).word

    v : List Spot
    v = cut (i + 1) m bs

    go : Read b bs (lexeme b bs) → Laid i (b ∷ bs) (put i x v)
    go (inl e) =
        subst (λ y. Laid i (b ∷ bs) (put i y v)) (sym e)
        ([], b ∷ bs, refl, refl, sym (add-zero i), inr (inl (refl, (tt, d, none_spelled b bs e), refl)))
    go (inr s) =
        let t = spelled x (b ∷ take m bs) (drop m bs) s.spells in
        let k : i + 1 + m ≡ i + suc (length (take m bs)) = omega (arith, length-take-le m bs s.within) in
        subst (Laid i (b ∷ bs)) (sym (put_goes i x v t.goes))
        ([], b ∷ bs, refl, refl, sym (add-zero i), inr (inr (b ∷ take m bs, drop m bs, ap (λ r. b ∷ r) (sym (take-append-drop m bs)), s.spells, subst (λ j. Laid j (drop m bs) v) k (after m s.within))))

laid_end : (i : ℕ) → Laid i [] (put i end [])
laid_end i = ([], [], refl, refl, sym (add-zero i), inl (refl, refl, refl))

pub cut_laid : (bs : List ℕ) (i n : ℕ) → n ≤ length bs → Laid (i + n) (drop n bs) (cut i n bs)
unfolding cut
cut_laid [] i zero h = subst (λ j. Laid j [] (put i end [])) (sym (add-zero i)) (laid_end i)
cut_laid [] i (suc n) h = absurd (omega arith)
cut_laid (b ∷ bs) i (suc n) h =
    let e : i + 1 + n ≡ i + suc n = omega arith in
    subst (λ j. Laid j (drop n bs) (cut (i + 1) n bs)) e (cut_laid bs (i + 1) n (omega arith))
cut_laid (b ∷ bs) i zero h =
    subst (λ j. Laid j (b ∷ bs) (cut i zero (b ∷ bs))) (sym (add-zero i))
    (cond_both (blank_byte b) _ _ (Laid i (b ∷ bs))
    (λ e. laid_blank (cut (i + 1) zero bs) i b bs e (subst (λ j. Laid j bs (cut (i + 1) zero bs)) (add-zero (i + 1)) (cut_laid bs (i + 1) zero (omega arith))))
    (λ e. laid_token i b bs e (λ n k. cut_laid bs (i + 1) n k)))

pub every_text_is_laid : EveryTextIsLaid
every_text_is_laid text = cut_laid text 0 0 (omega arith)
