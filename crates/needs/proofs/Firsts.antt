-- The first place that passes a test.
use Rattle.std.proofs.Common.{◌≡◌, ℕ, zero, suc, ◌+◌, ◌<◌, Bool, true, false, cond, not, ltb, position, List, [], ◌∷◌, length, get_or, Some, None, Option, sym, refl, ap, ◌∙◌, arith, ltb-false, ltb-true, le-ltb, lt-ltb}
use Rattle.std.specs.List.{position_or_len}
use Rattle.shelf.specs.declared.items.Noted.{Noted}
use Rattle.shelf.specs.Contexts.{size}
use Rattle.lexicon.specs.Numbering.{tell}
use Rattle.store.specs.declared.record.Entry.{Entry}
use Rattle.store.specs.State.{placed}
use Rattle.needs.specs.Needs.{first_where}
use Rattle.needs.specs.Needs as goal

none_some : {X : Type 0} (n : ℕ) → ◌≡◌ {A = Option ℕ} None (Some n) → X
none_some n e = let z : ◌≡◌ {A = ℕ} 0 1 = cc in absurd (omega arith)

some_is : (m n : ℕ) → ◌≡◌ {A = Option ℕ} (Some m) (Some n) → m ≡ n
some_is m n e = cc

tell_some : (o : Option ℕ) (i : ℕ) → tell suc o ≡ Some i → (j : ℕ) × (i ≡ suc j) × (o ≡ Some j)
tell_some None i e = none_some i e
tell_some (Some j) i e = (j, sym (some_is (suc j) i e), refl)

tell_none : (o : Option ℕ) → tell suc o ≡ None → o ≡ None
tell_none None e = refl
tell_none (Some j) e = none_some (suc j) (sym e)

low : (p : Entry → Bool) (x : Entry) (es : List Entry) (d : Entry) (i : ℕ) → p x ≡ false → ((m : ℕ) → m < i → p (get_or es m d) ≡ false) → (k : ℕ) → k < suc i → p (get_or (x ∷ es) k d) ≡ false
low p x es d i h q zero lt = h
low p x es d i h q (suc k) lt = q k (omega arith)

pub first-is : goal.FirstIsTheFirst
unfolding first_where
first-is p [] i d e = none_some i e
first-is p (x ∷ es) i d e = go (p x) refl e (λ j f. first-is p es j d f)
  where
    go : (b : Bool) → p x ≡ b → cond b (Some 0) (tell suc (first_where p es)) ≡ Some i
        → ((j : ℕ) → first_where p es ≡ Some j → (j < length es) × (p (get_or es j d) ≡ true) × ((k : ℕ) → k < j → p (get_or es k d) ≡ false))
        → (i < suc (length es)) × (p (get_or (x ∷ es) i d) ≡ true) × ((k : ℕ) → k < i → p (get_or (x ∷ es) k d) ≡ false)
    go true h e r =
        let z : 0 ≡ i = some_is 0 i e in
        (omega (arith, z), ap (λ k. p (get_or (x ∷ es) k d)) (sym z) ∙ h, (λ k lt. absurd (omega (arith, lt, z))))
    go false h e r =
        let t = tell_some (first_where p es) i e in
        let s = r t.0 t.2 in
        (omega (arith, t.1, s.0), ap (λ k. p (get_or (x ∷ es) k d)) t.1 ∙ s.1, (λ k lt. low p x es d t.0 h s.2 k (omega (arith, lt, t.1))))

pub none_is : goal.NoneIsNone
unfolding first_where
none_is p [] k d e h = absurd (omega arith)
none_is p (x ∷ es) k d e h = go (p x) refl e k h (λ j f g. none_is p es j d f g)
  where
    go : (b : Bool) → p x ≡ b → cond b (Some 0) (tell suc (first_where p es)) ≡ None → (k : ℕ) → k < suc (length es) → ((j : ℕ) → first_where p es ≡ None → j < length es → p (get_or es j d) ≡ false) → p (get_or (x ∷ es) k d) ≡ false
    go true f e k h r = none_some 0 (sym e)
    go false f e zero h r = f
    go false f e (suc k) h r = r k (tell_none (first_where p es) e) (omega arith)

-- ---- looking through the record

abbrev entry : Noted → Entry
entry n = record { iri = n.iri; mark = n.mark }

step : (k n m : ℕ) → k ≡ suc n → cond (ltb k (suc m)) (Some k) None ≡ tell suc (cond (ltb n m) (Some n) None)
step k n m e = ap (λ j. cond (ltb j (suc m)) (Some j) None) e ∙ go (ltb n m) refl
  where
    go : (b : Bool) → ltb n m ≡ b → cond (ltb (suc n) (suc m)) (Some (suc n)) None ≡ tell suc (cond b (Some n) None)
    go true t = ap (λ c. cond c (Some (suc n)) None) (lt-ltb (suc n) (suc m) (omega (arith, ltb-true n m t)))
    go false t = ap (λ c. cond c (Some (suc n)) None) (le-ltb (suc n) (suc m) (omega (arith, ltb-false n m t)))

-- a place in the record, by what the record lends
pub first_placed : (p : Entry → Bool) (first : ℕ) (es : List Entry) → position (λ n. p (entry n)) (placed first es) ≡ first_where p es
unfolding first_where
first_placed p first [] = refl
first_placed p first (e ∷ es) = go (p e) (first_placed p (first + size e.mark) es)
  where
    place : ℕ
    place = position_or_len (λ n. p (entry n)) (placed (first + size e.mark) es)

    count : ℕ
    count = length (placed (first + size e.mark) es)

    go : (b : Bool) → cond (ltb place count) (Some place) None ≡ first_where p es → cond (ltb (cond (not b) (1 + place) 0) (suc count)) (Some (cond (not b) (1 + place) 0)) None ≡ cond b (Some 0) (tell suc (first_where p es))
    go true r = ap (λ c. cond c (Some 0) None) (lt-ltb 0 (suc count) (omega arith))
    go false r = step (1 + place) place count (omega arith) ∙ ap (tell suc) r
