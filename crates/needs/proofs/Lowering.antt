-- The lowest of what is missing, term by term.
use Rattle.std.proofs.Common.{◌≡◌, ℕ, zero, suc, ◌+◌, ◌≤◌, Bool, true, false, cond, not, ◌&&◌, leb, List, [], ◌∷◌, filter, length, is_some, Some, None, Option, sym, refl, ap, ◌∙◌, ap₂, subst, arith, leb-false, leb-true}
use Rattle.std.specs.List.{fold, reduce, range_with_len}
use Rattle.terms.specs.Terms.{Term}
use Rattle.lexicon.specs.Numbering.{term_at}
use Rattle.lexicon.proofs.Numbers.{term_zero, term_past, not_true}
use Rattle.store.specs.State.{State}
use Rattle.store.specs.Looking.{address_of}
use Rattle.needs.specs.Needs.{wanted_at, first_where, is_of, lower, lower_of, missing, Lowest, LowestTo}
use Rattle.needs.proofs.Ordering.{not_itself, goes_on}

clash : {X : Type 0} (b : Bool) → b ≡ true → b ≡ false → X
clash b e f = let g : true ≡ false = sym e ∙ f in let z : ◌≡◌ {A = ℕ} 0 1 = cc in absurd (omega arith)

lower_itself : (t : Option Term) → lower t t ≡ false
lower_itself None = refl
lower_itself (Some t) = not_itself t.bytes

lower_on : (a b d : Option Term) → lower a b ≡ true → lower b d ≡ true → lower a d ≡ true
lower_on None b d e f = e
lower_on (Some a) None d e f = clash false e refl
lower_on (Some a) (Some b) None e f = clash false f refl
lower_on (Some a) (Some b) (Some d) e f = goes_on a.bytes b.bytes d.bytes e f

-- ---- when an IRI is missing

pub not_wanted : (s : State) (ws : List Bool) (n : ℕ) → wanted_at ws n ≡ false → missing s ws n ≡ false
unfolding missing
not_wanted s ws n e = ap (λ (b : Bool). b && is_some (address_of (term_at s.terms n)) && not (is_some (first_where (is_of n) s.entries))) e

pub no_iri : (s : State) (ws : List Bool) (n : ℕ) → wanted_at ws n ≡ true → is_some (address_of (term_at s.terms n)) ≡ false → missing s ws n ≡ false
unfolding missing
no_iri s ws n e f = ap₂ (λ (a b : Bool). a && b && not (is_some (first_where (is_of n) s.entries))) e f

-- what is missing has a term
no_term_lem : (s : State) (ws : List Bool) (n : ℕ) → term_at s.terms n ≡ None → missing s ws n ≡ false
no_term_lem s ws n e = go (wanted_at ws n) refl
  where
    go : (b : Bool) → wanted_at ws n ≡ b → missing s ws n ≡ false
    go true w = no_iri s ws n w (ap (λ (t : Option Term). is_some (address_of t)) e)
    go false w = not_wanted s ws n w

-- ---- up to a number

pub lowest_start : (s : State) (ws : List Bool) → LowestTo s ws 0 None
lowest_start s ws n h = no_term_lem s ws n (let z : n ≡ 0 = omega (arith, h) in ap (term_at s.terms) z ∙ term_zero s.terms)

pub lowest_same : (s : State) (ws : List Bool) (k : ℕ) (r : Option ℕ) → LowestTo s ws k r → missing s ws (k + 1) ≡ false → LowestTo s ws (k + 1) r
lowest_same s ws k None h f = λ n le. go n le (leb n k) refl
  where
    go : (n : ℕ) → n ≤ k + 1 → (b : Bool) → leb n k ≡ b → missing s ws n ≡ false
    go n le true e = h n (leb-true n k e)
    go n le false e = let z : n ≡ k + 1 = omega (arith, leb-false n k e, le) in ap (missing s ws) z ∙ f
lowest_same s ws k (Some l) h f = (h.0, λ m le e. go m le e (leb m k) refl)
  where
    go : (m : ℕ) → m ≤ k + 1 → missing s ws m ≡ true → (b : Bool) → leb m k ≡ b → lower (term_at s.terms m) (term_at s.terms l) ≡ false
    go m le e true t = h.1 m (leb-true m k t) e
    go m le e false t = let z : m ≡ k + 1 = omega (arith, leb-false m k t, le) in clash (missing s ws m) e (ap (missing s ws) z ∙ f)

pub lowest_more : (s : State) (ws : List Bool) (k n : ℕ) (r : Option ℕ) → LowestTo s ws k r → n ≡ k + 1 → missing s ws n ≡ true → LowestTo s ws (k + 1) (Some (lower_of s.terms n r))
lowest_more s ws k n None h en e = (e, λ m le f. go m le f (leb m k) refl)
  where
    go : (m : ℕ) → m ≤ k + 1 → missing s ws m ≡ true → (b : Bool) → leb m k ≡ b → lower (term_at s.terms m) (term_at s.terms n) ≡ false
    go m le f true t = clash (missing s ws m) f (h m (leb-true m k t))
    go m le f false t = let z : m ≡ n = omega (arith, leb-false m k t, le, en) in ap (λ j. lower (term_at s.terms j) (term_at s.terms n)) z ∙ lower_itself (term_at s.terms n)
lowest_more s ws k n (Some l) h en e = pick (lower (term_at s.terms n) (term_at s.terms l)) refl
  where
    old : (m : ℕ) → m ≤ k + 1 → missing s ws m ≡ true → lower (term_at s.terms n) (term_at s.terms l) ≡ false → (b : Bool) → leb m k ≡ b → lower (term_at s.terms m) (term_at s.terms l) ≡ false
    old m le f low true t = h.1 m (leb-true m k t) f
    old m le f low false t = let z : m ≡ n = omega (arith, leb-false m k t, le, en) in ap (λ j. lower (term_at s.terms j) (term_at s.terms l)) z ∙ low

    new : (m : ℕ) → m ≤ k + 1 → missing s ws m ≡ true → lower (term_at s.terms n) (term_at s.terms l) ≡ true → (b : Bool) → leb m k ≡ b → lower (term_at s.terms m) (term_at s.terms n) ≡ false
    new m le f low true t = not_true (lower (term_at s.terms m) (term_at s.terms n)) (λ g. clash (lower (term_at s.terms m) (term_at s.terms l)) (lower_on (term_at s.terms m) (term_at s.terms n) (term_at s.terms l) g low) (h.1 m (leb-true m k t) f))
    new m le f low false t = let z : m ≡ n = omega (arith, leb-false m k t, le, en) in ap (λ j. lower (term_at s.terms j) (term_at s.terms n)) z ∙ lower_itself (term_at s.terms n)

    pick : (b : Bool) → lower (term_at s.terms n) (term_at s.terms l) ≡ b → LowestTo s ws (k + 1) (Some (cond b n l))
    pick true low = (e, λ m le f. new m le f low (leb m k) refl)
    pick false low = (h.0, λ m le f. old m le f low (leb m k) refl)

-- past the last term nothing is missing
pub lowest_end : (s : State) (ws : List Bool) (k : ℕ) (r : Option ℕ) → length s.terms ≤ k → LowestTo s ws k r → Lowest s ws r
lowest_end s ws k None h l = λ n. go n (leb n k) refl
  where
    go : (n : ℕ) (b : Bool) → leb n k ≡ b → missing s ws n ≡ false
    go n true e = l n (leb-true n k e)
    go n false e = no_term_lem s ws n (term_past s.terms n (omega (arith, leb-false n k e, h)))
lowest_end s ws k (Some i) h l = (l.0, λ m f. go m f (leb m k) refl)
  where
    go : (m : ℕ) → missing s ws m ≡ true → (b : Bool) → leb m k ≡ b → lower (term_at s.terms m) (term_at s.terms i) ≡ false
    go m f true e = l.1 m (leb-true m k e) f
    go m f false e = clash (missing s ws m) f (no_term_lem s ws m (term_past s.terms m (omega (arith, leb-false m k e, h))))

-- ---- one after the other

-- the lowest of what was found before and of these
abbrev then : List Term → Option ℕ → List ℕ → Option ℕ
then ts None xs = reduce (λ l x. lower_of ts x (Some l)) xs
then ts (Some l) xs = Some (fold (λ m x. lower_of ts x (Some m)) l xs)

then_none : (ts : List Term) (r : Option ℕ) → then ts r [] ≡ r
then_none ts None = refl
then_none ts (Some l) = refl

then_more : (ts : List Term) (r : Option ℕ) (x : ℕ) (xs : List ℕ) → then ts (Some (lower_of ts x r)) xs ≡ then ts r (x ∷ xs)
then_more ts None x xs = refl
then_more ts (Some l) x xs = refl

at : (s : State) (ws : List Bool) (j k : ℕ) (r q : Option ℕ) → j ≡ k → r ≡ q → LowestTo s ws j r → LowestTo s ws k q
at s ws j k r q e f h = subst (λ (i : ℕ). LowestTo s ws i q) e (subst (λ (o : Option ℕ). LowestTo s ws j o) f h)

lowest_from : (s : State) (ws : List Bool) (n k : ℕ) (r : Option ℕ) → LowestTo s ws k r → LowestTo s ws (k + n) (then s.terms r (filter (missing s ws) (range_with_len (k + 1) n)))
lowest_from s ws zero k r h = at s ws k (k + 0) r (then s.terms r []) (omega arith) (sym (then_none s.terms r)) h
lowest_from s ws (suc n) k r h = go (filter (missing s ws) (range_with_len (k + 1 + 1) n)) (missing s ws (k + 1)) refl (λ q g. lowest_from s ws n (k + 1) q g)
  where
    go : (rest : List ℕ) (b : Bool) → missing s ws (k + 1) ≡ b → ((q : Option ℕ) → LowestTo s ws (k + 1) q → LowestTo s ws (k + 1 + n) (then s.terms q rest)) → LowestTo s ws (k + suc n) (then s.terms r (cond b ((k + 1) ∷ rest) rest))
    go rest true e f =
        let l = Some (lower_of s.terms (k + 1) r) in
        at s ws (k + 1 + n) (k + suc n) (then s.terms l rest) (then s.terms r ((k + 1) ∷ rest)) (omega arith) (then_more s.terms r (k + 1) rest) (f l (lowest_more s ws k (k + 1) r h refl e))
    go rest false e f = at s ws (k + 1 + n) (k + suc n) (then s.terms r rest) (then s.terms r rest) (omega arith) refl (f r (lowest_same s ws k r h e))

pub lowest_all : (s : State) (ws : List Bool) (r : Option ℕ) → r ≡ reduce (λ l x. lower_of s.terms x (Some l)) (filter (missing s ws) (range_with_len 1 (length s.terms))) → Lowest s ws r
lowest_all s ws r e = subst (λ (o : Option ℕ). Lowest s ws o) (sym e) (lowest_end s ws (0 + length s.terms) _ (omega arith) (lowest_from s ws (length s.terms) 0 None (lowest_start s ws)))
