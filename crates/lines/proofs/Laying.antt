-- The lines of a file are laid in one way.
use Rattle.std.proofs.Common.{◌≡◌, ℕ, Bool, true, false, cond, eqb, List, [], ◌∷◌, ◌++◌, sym, refl, ap, ◌∙◌, subst, inl, inr, arith, eqb-true}
use Rattle.lines.specs.Lines.{lines, onto}
use Rattle.lines.specs.Spelled.{Unbroken, Laid, EveryFileIsLaid, LaidOnce}
use Rattle.lines.proofs.Cutting.{lines_nil, lines_cons}

apart : {A : Type 0} (x : A) (xs : List A) → x ∷ xs ≡ [] → ⊥
apart x xs e = let z : ◌≡◌ {A = ℕ} 0 1 = cc in omega arith

-- a byte that is no LF before lines
laid_onto : (b : ℕ) (bs : List ℕ) (ls : List (List ℕ)) → eqb b 10 ≡ false → Laid bs ls → Laid (b ∷ bs) (onto b ls)
laid_onto b bs [] e h = ((e, tt), inr (ap (λ r. b ∷ r) h, apart b [], refl))
laid_onto b bs (l ∷ ls) e (u, inl (rest, s, h)) = ((e, u), inl (rest, ap (λ r. b ∷ r) s, h))
laid_onto b bs (l ∷ ls) e (u, inr (s, f, n)) = ((e, u), inr (ap (λ r. b ∷ r) s, apart b l, n))

pub every_file : EveryFileIsLaid
every_file [] = subst (Laid []) (sym lines_nil) refl
every_file (b ∷ bs) = subst (Laid (b ∷ bs)) (sym (lines_cons b bs)) (go (eqb b 10) refl (every_file bs))
  where
    go : (t : Bool) → eqb b 10 ≡ t → Laid bs (lines bs) → Laid (b ∷ bs) (cond t ([] ∷ lines bs) (onto b (lines bs)))
    go true e h = (tt, inl (bs, ap (λ c. c ∷ bs) (eqb-true b 10 e), h))
    go false e h = laid_onto b bs (lines bs) e h

-- a line and its LF
line_ended : (l rest : List ℕ) → Unbroken l → lines (l ++ (10 ∷ rest)) ≡ l ∷ lines rest
line_ended [] rest u = lines_cons 10 rest
line_ended (b ∷ l) rest u =
    lines_cons b (l ++ (10 ∷ rest)) ∙ ap (λ t. cond t ([] ∷ lines (l ++ (10 ∷ rest))) (onto b (lines (l ++ (10 ∷ rest))))) u.0 ∙ ap (onto b) (line_ended l rest u.1)

-- bytes at the file's end
line_last : (l : List ℕ) → Unbroken l → (l ≡ [] → ⊥) → lines l ≡ l ∷ []
line_last [] u f = absurd (f refl)
line_last (b ∷ []) u f = lines_cons b [] ∙ ap (λ t. cond t ([] ∷ lines []) (onto b (lines []))) u.0 ∙ ap (onto b) lines_nil
line_last (b ∷ d ∷ l) u f =
    lines_cons b (d ∷ l) ∙ ap (λ t. cond t ([] ∷ lines (d ∷ l)) (onto b (lines (d ∷ l)))) u.0 ∙ ap (onto b) (line_last (d ∷ l) u.1 (apart d l))

pub laid_once : LaidOnce
laid_once file [] h = sym (ap lines h ∙ lines_nil)
laid_once file (l ∷ ls) (u, inl (rest, s, h)) = sym (ap lines s ∙ line_ended l rest u ∙ ap (λ r. l ∷ r) (sym (laid_once rest ls h)))
laid_once file (l ∷ ls) (u, inr (s, f, n)) = sym (ap lines s ∙ line_last l u f ∙ ap (λ r. l ∷ r) (sym n))
