-- A line is the longest run of bytes that are no LF.
use Rattle.std.proofs.Common.{◌≡◌, ℕ, suc, ◌+◌, ◌-◌, ◌<◌, ◌≤◌, min, Bool, true, false, cond, not, eqb, ◌⊎◌, List, [], ◌∷◌, ◌++◌, length, get_or, take, take_while, drop, sym, refl, ap, ◌∙◌, ap₂, inl, inr, arith, eqb-true}
use Rattle.std.proofs.lemmas.Bool.{cases_lt}
use Rattle.std.proofs.lemmas.List.{drop_all, drop_more, take_all, take-append-drop, take_rest, length-drop}
use Rattle.terms.proofs.Runs.{run_take, run_ends, run_more, run_none}
use Rattle.lines.specs.Lines.{lines, onto}
use Rattle.lines.specs.Runs.{differs}
use Rattle.lines.specs.Steps.{Taken}

abbrev pub line : List ℕ → List ℕ
line bs = take_while (differs 10) bs

pub lines_cons : (b : ℕ) (bs : List ℕ) → lines (b ∷ bs) ≡ cond (eqb b 10) ([] ∷ lines bs) (onto b (lines bs))
unfolding lines
lines_cons b bs = refl

pub lines_nil : lines [] ≡ []
unfolding lines
lines_nil = refl

-- a byte before a line that is found already
onto_first : (b : ℕ) (bs : List ℕ) → onto b (lines bs) ≡ (b ∷ line bs) ∷ lines (drop (suc (length (line bs)) + 1) (b ∷ bs)) → lines (b ∷ bs) ≡ line (b ∷ bs) ∷ lines (drop (length (line (b ∷ bs)) + 1) (b ∷ bs))
onto_first b bs h = lines_cons b bs ∙ go (eqb b 10) refl
  where
    by : List ℕ → List (List ℕ)
    by l = l ∷ lines (drop (length l + 1) (b ∷ bs))

    go : (t : Bool) → eqb b 10 ≡ t → cond t ([] ∷ lines bs) (onto b (lines bs)) ≡ by (line (b ∷ bs))
    go true e = sym (ap by (run_none (differs 10) b bs (ap not e)))
    go false e = h ∙ sym (ap by (run_more (differs 10) b bs (ap not e)))

shift : (n : ℕ) → suc (n + 1) ≡ suc n + 1
shift n = omega arith

pub lines_first : (bs : List ℕ) → 0 < length bs → lines bs ≡ line bs ∷ lines (drop (length (line bs) + 1) bs)
lines_first [] h = absurd (omega arith)
lines_first (b ∷ []) h = onto_first b [] (ap (onto b) lines_nil ∙ sym (ap (λ r. (b ∷ []) ∷ r) lines_nil))
lines_first (b ∷ d ∷ ds) h =
    onto_first b (d ∷ ds)
    (ap (onto b) (lines_first (d ∷ ds) (omega arith)) ∙ ap (λ k. (b ∷ line (d ∷ ds)) ∷ lines (drop k (b ∷ d ∷ ds))) (shift (length (line (d ∷ ds)))))

differs_not : (c b : ℕ) → differs c b ≡ false → b ≡ c
differs_not c b e = go (eqb b c) refl e
  where
    go : (t : Bool) → eqb b c ≡ t → not t ≡ false → b ≡ c
    go true q e = eqb-true b c q
    go false q e = let z : ◌≡◌ {A = ℕ} 0 1 = cc in absurd (omega arith)

-- the line that the code takes off, and what it leaves
pub line_taken : (n : ℕ) (bs : List ℕ) (k m : ℕ) → 0 < length bs → k ≡ length (line bs) → m ≡ min (k + 1) (length bs) → Taken n bs (take (k - 0) bs) (n + 1) (n + 1) (take (length bs - m) (drop m bs))
line_taken n bs k m h e i = go (cases_lt k (length bs))
  where
    f : k < length bs → m ≡ k + 1
    f l = omega (arith, i)

    g : length bs ≤ k → m ≡ length bs
    g l = omega (arith, i)

    zero_less : k - 0 ≡ k
    zero_less = omega arith

    taken : (bs ≡ take (k - 0) bs ++ (10 ∷ take (length bs - m) (drop m bs))) ⊎ ((bs ≡ take (k - 0) bs) × (take (length bs - m) (drop m bs) ≡ [])) → drop m bs ≡ drop (length (line bs) + 1) bs → 0 < m → Taken n bs (take (k - 0) bs) (n + 1) (n + 1) (take (length bs - m) (drop m bs))
    taken parts d p = record {
      split = parts;
      first = lines_first bs h ∙ ap₂ (λ l r. l ∷ lines r) (sym (ap (λ j. take j bs) (zero_less ∙ e) ∙ run_take (differs 10) bs)) (sym d ∙ sym (take_rest bs m));
      count = refl;
      next = refl;
      less = omega (arith, ap length (take_rest bs m), length-drop m bs);
    }

    ended_by : k < length bs → get_or bs k 0 ≡ 10
    ended_by l = differs_not 10 (get_or bs k 0) (ap (λ i. differs 10 (get_or bs i 0)) e ∙ run_ends (differs 10) bs (omega arith))

    parted : k < length bs → bs ≡ take (k - 0) bs ++ (10 ∷ take (length bs - m) (drop m bs))
    parted l =
        sym (take-append-drop k bs)
        ∙ ap₂ (λ x y. x ++ y) (ap (λ i. take i bs) (sym zero_less)) (drop_more bs k 0 l ∙ ap₂ (λ b r. b ∷ r) (ended_by l) (ap (λ i. drop i bs) (sym (f l)) ∙ sym (take_rest bs m)))

    go : (k < length bs) ⊎ (length bs ≤ k) → Taken n bs (take (k - 0) bs) (n + 1) (n + 1) (take (length bs - m) (drop m bs))
    go (inl l) = taken (inl (parted l)) (ap (λ i. drop i bs) (f l ∙ ap (λ i. i + 1) e)) (omega (arith, f l))
    go (inr l) = taken (inr (sym (ap (λ i. take i bs) zero_less ∙ take_all k bs l), take_rest bs m ∙ drop_all m bs (omega (arith, g l)))) (drop_all m bs (omega (arith, g l)) ∙ sym (drop_all (length (line bs) + 1) bs (omega arith))) (omega (arith, g l))
