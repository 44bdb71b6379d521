-- Runs: the bytes from the front on that all pass a test, as the library's `take_while` gives them.
use Rattle.std.proofs.Common.{◌≡◌, ℕ, ◌<◌, ◌≤◌, Bool, true, false, cond, List, [], ◌∷◌, ◌++◌, length, get_or, take, take_while, refl, ap, ◌∙◌, arith}
use Rattle.std.specs.List.{list_all}
use Rattle.std.proofs.lemmas.Bool.{and_from, and_parts}
use Rattle.std.proofs.lemmas.List.Folds.{length-prefix_len}
use Rattle.std.proofs.lemmas.List.Sums.{prefix_len-le-length, prefix_len_stops, take_while-cons}

pub run_fits : (p : ℕ → Bool) (bs : List ℕ) → length (take_while p bs) ≤ length bs
run_fits p bs = omega (arith, length-prefix_len p bs, prefix_len-le-length p bs)

-- a run is the front of so many bytes
pub run_take : (p : ℕ → Bool) (bs : List ℕ) → take (length (take_while p bs)) bs ≡ take_while p bs
run_take p bs = ap (λ n. take n bs) (length-prefix_len p bs)

-- the byte behind a run does not pass
pub run_ends : (p : ℕ → Bool) (bs : List ℕ) → length (take_while p bs) < length bs → p (get_or bs (length (take_while p bs)) 0) ≡ false
run_ends p bs h = ap (λ n. p (get_or bs n 0)) (length-prefix_len p bs) ∙ prefix_len_stops p bs 0 (omega (arith, length-prefix_len p bs))

pub run_more : {X : Type 0} (p : X → Bool) (b : X) (bs : List X) → p b ≡ true → take_while p (b ∷ bs) ≡ b ∷ take_while p bs
run_more p b bs e = take_while-cons p b bs ∙ ap (λ t. cond t (b ∷ take_while p bs) []) e

pub run_none : {X : Type 0} (p : X → Bool) (b : X) (bs : List X) → p b ≡ false → take_while p (b ∷ bs) ≡ []
run_none p b bs e = take_while-cons p b bs ∙ ap (λ t. cond t (b ∷ take_while p bs) []) e

pub run_all : (p : ℕ → Bool) (bs : List ℕ) → list_all p (take_while p bs) ≡ true
run_all p [] = refl
run_all p (b ∷ bs) = go (p b) refl (run_all p bs)
  where
    go : (t : Bool) → p b ≡ t → list_all p (take_while p bs) ≡ true → list_all p (take_while p (b ∷ bs)) ≡ true
    go true e h = ap (list_all p) (run_more p b bs e) ∙ and_from _ _ e h
    go false e h = ap (list_all p) (run_none p b bs e)

-- bytes that pass are a run where what stands behind them has none
pub run_whole : (p : ℕ → Bool) (x rest : List ℕ) → list_all p x ≡ true → take_while p rest ≡ [] → take_while p (x ++ rest) ≡ x
run_whole p [] rest e f = f
run_whole p (b ∷ x) rest e f = let two = and_parts _ _ e in run_more p b (x ++ rest) two.0 ∙ ap (λ y. b ∷ y) (run_whole p x rest two.1 f)
