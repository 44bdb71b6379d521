-- Runs of bytes, and the bytes of a text from an offset on.
use Rattle.std.proofs.Common.{◌≡◌, ℕ, ◌+◌, ◌<◌, ◌≤◌, Bool, true, false, eqb, ◌⊎◌, List, [], ◌∷◌, length, get_or, take_while, drop, sym, refl, ap, ◌∙◌, inl, inr, arith}
use Rattle.std.proofs.lemmas.List.{drop_all, drop_more}
use Rattle.std.proofs.lemmas.Bool.{cases_lt, true≢false}
use Rattle.terms.specs.Bytes.{leads}
use Rattle.terms.proofs.Runs.{run_more}
use Rattle.tokens.specs.Lexed.{is_nil}

-- a run that begins at a byte that passes
pub run_some : (p : ℕ → Bool) (bs : List ℕ) (i : ℕ) → i < length bs → p (get_or bs i 0) ≡ true → 0 < length (take_while p (drop i bs))
run_some p bs i h e = omega (arith, ap length (ap (take_while p) (drop_more bs i 0 h) ∙ run_more p (get_or bs i 0) (drop (i + 1) bs) e))

pub leads_here : (c : ℕ) (bs : List ℕ) (i : ℕ) → i < length bs → eqb (get_or bs i 0) c ≡ leads c (drop i bs)
leads_here c bs i h = sym (ap (leads c) (drop_more bs i 0 h))

pub leads_past : (c : ℕ) (bs : List ℕ) (i : ℕ) → length bs ≤ i → false ≡ leads c (drop i bs)
leads_past c bs i h = sym (ap (leads c) (drop_all i bs h))

pub leads_within : (c : ℕ) (bs : List ℕ) (i : ℕ) → true ≡ leads c (drop i bs) → i < length bs
leads_within c bs i e = go (cases_lt i (length bs))
  where
    go : (i < length bs) ⊎ (length bs ≤ i) → i < length bs
    go (inl h) = h
    go (inr h) = let z : true ≡ false = e ∙ sym (leads_past c bs i h) in absurd (true≢false z)

pub some_not_nil : (x : List ℕ) → 0 < length x → is_nil x ≡ false
some_not_nil [] h = absurd (omega arith)
some_not_nil (b ∷ x) h = refl
