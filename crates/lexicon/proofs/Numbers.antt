-- Numbers of terms in a list, and what entering does to them.
use Rattle.std.proofs.Common.{◌≡◌, ℕ, zero, suc, ◌+◌, ◌<◌, ◌≤◌, Bool, true, false, cond, ◌&&◌, eqb, leb, List, [], ◌∷◌, ◌++◌, length, get_or, unwrap_or, Some, None, Option, sym, refl, ap, ◌∙◌, subst, ap₂, append_assoc, append-nil, arith, length-append, eq-eqb, ne_eqb, eqb-true, le-leb, leb-false, leb-true}
use Rattle.std.specs.Option.{MatchOption}
use Rattle.terms.specs.Terms.{Term}
use Rattle.terms.specs.declared.kind.Kind.{Kind}
use Rattle.terms.specs.declared.kind.Kind.TheVariants.{Iri, Literal}
use Rattle.tokens.specs.Lexed.{same_bytes}
use Rattle.lexicon.specs.Numbering.{term, same_kind, same_term, is_term, one_on, number_of, told_number, term_at, enter, enter_all, bytes_of, within, admit, admitted}

pub and_left : (a b : Bool) → (a && b) ≡ true → a ≡ true
and_left true b e = refl
and_left false b e = e

pub and_right : (a b : Bool) → (a && b) ≡ true → b ≡ true
and_right true b e = e
and_right false b e = let z : ◌≡◌ {A = ℕ} 0 1 = cc in absurd (omega arith)

bytes_same : (xs ys : List ℕ) → same_bytes xs ys ≡ true → xs ≡ ys
bytes_same [] [] e = refl
bytes_same [] (y ∷ ys) e = let z : ◌≡◌ {A = ℕ} 0 1 = cc in absurd (omega arith)
bytes_same (x ∷ xs) [] e = let z : ◌≡◌ {A = ℕ} 0 1 = cc in absurd (omega arith)
bytes_same (x ∷ xs) (y ∷ ys) e = ap₂ ◌∷◌ (eqb-true x y (and_left (eqb x y) _ e)) (bytes_same xs ys (and_right (eqb x y) _ e))

bytes_self : (xs : List ℕ) → same_bytes xs xs ≡ true
bytes_self [] = refl
bytes_self (x ∷ xs) = ap₂ ◌&&◌ (eq-eqb x x refl) (bytes_self xs)

kind_same : (a b : Kind) → same_kind a b ≡ true → a ≡ b
kind_same Iri Iri e = refl
kind_same Iri Literal e = let z : ◌≡◌ {A = ℕ} 0 1 = cc in absurd (omega arith)
kind_same Literal Iri e = let z : ◌≡◌ {A = ℕ} 0 1 = cc in absurd (omega arith)
kind_same Literal Literal e = refl

kind_self : (k : Kind) → same_kind k k ≡ true
kind_self Iri = refl
kind_self Literal = refl

pub term_same : (a b : Term) → same_term a b ≡ true → a ≡ b
term_same a b e =
    let k = kind_same a.kind b.kind (and_left (same_kind a.kind b.kind) _ e) in
    let x = bytes_same a.bytes b.bytes (and_right (same_kind a.kind b.kind) _ e) in
    ap₂ term k x

pub term_self : (t : Term) → same_term t t ≡ true
term_self t = ap₂ ◌&&◌ (kind_self t.kind) (bytes_self t.bytes)

-- ---- one on

on_some : (n : ℕ) → 0 < one_on n → (0 < n) × (one_on n ≡ suc n)
on_some zero h = absurd (omega arith)
on_some (suc n) h = (omega arith, refl)

some_on : (n : ℕ) → 0 < n → one_on n ≡ suc n
some_on zero h = absurd (omega arith)
some_on (suc n) h = refl

on_none : (n : ℕ) → one_on n ≡ 0 → n ≡ 0
on_none zero h = refl
on_none (suc n) h = absurd (omega arith)

-- ---- numbers

pub told_is : (n m : ℕ) → Some m ≡ told_number n → (m ≡ n) × (0 < m)
told_is zero m e = absurd (cc)
told_is (suc n) m e = grind arith

pub told_or : (n : ℕ) → unwrap_or (told_number n) 0 ≡ n
told_or zero = refl
told_or (suc n) = refl

pub told_none : (n : ℕ) → None ≡ told_number n → n ≡ 0
told_none zero e = refl
told_none (suc n) e = absurd (cc)

pub number_front : (ts x : List Term) (u : Term) → 0 < number_of ts u → number_of (ts ++ x) u ≡ number_of ts u
unfolding number_of
number_front [] x u h = absurd (omega arith)
number_front (t ∷ ts) x u h = go (same_term t u) h (λ p. number_front ts x u p)
  where
    go : (b : Bool) → 0 < cond b 1 (one_on (number_of ts u)) → (0 < number_of ts u → number_of (ts ++ x) u ≡ number_of ts u) → cond b 1 (one_on (number_of (ts ++ x) u)) ≡ cond b 1 (one_on (number_of ts u))
    go true h r = refl
    go false h r = ap one_on (r (on_some (number_of ts u) h).0)

-- a term that is not there and goes behind the others
pub number_behind : (ts : List Term) (t : Term) → number_of ts t ≡ 0 → number_of (ts ++ t ∷ []) t ≡ suc (length ts)
unfolding number_of
number_behind [] t h = ap (λ b. cond b 1 0) (term_self t)
number_behind (s ∷ ts) t h = go (same_term s t) h (λ p. number_behind ts t p)
  where
    go : (b : Bool) → cond b 1 (one_on (number_of ts t)) ≡ 0 → (number_of ts t ≡ 0 → number_of (ts ++ t ∷ []) t ≡ suc (length ts)) → cond b 1 (one_on (number_of (ts ++ t ∷ []) t)) ≡ suc (suc (length ts))
    go true h r = absurd (omega arith)
    go false h r = ap one_on (r (on_none (number_of ts t) h))

pub enter_there : (ts : List Term) (t : Term) → 0 < number_of ts t → enter ts t ≡ ts
unfolding enter
enter_there ts t h = go (number_of ts t) h
  where
    go : (n : ℕ) → 0 < n → cond (eqb n 0) (ts ++ t ∷ []) ts ≡ ts
    go n h = ap (λ b. cond b (ts ++ t ∷ []) ts) (ne_eqb n 0 (λ e. omega (arith, e, h)))

pub enter_new : (ts : List Term) (t : Term) → number_of ts t ≡ 0 → enter ts t ≡ ts ++ t ∷ []
unfolding enter
enter_new ts t h = ap (λ n. cond (eqb n 0) (ts ++ t ∷ []) ts) h

pub number_entered : (ts : List Term) (t : Term) → 0 < number_of (enter ts t) t
number_entered ts t = go (number_of ts t) refl
  where
    go : (n : ℕ) → number_of ts t ≡ n → 0 < number_of (enter ts t) t
    go zero e = subst (λ (l : List Term). 0 < number_of l t) (sym (enter_new ts t e)) (omega (arith, number_behind ts t e))
    go (suc n) e = subst (λ (l : List Term). 0 < number_of l t) (sym (enter_there ts t (omega (arith, e)))) (omega (arith, e))

pub enter_front : (ts : List Term) (t : Term) → (x : List Term) × (enter ts t ≡ ts ++ x)
enter_front ts t = go (number_of ts t) refl
  where
    go : (n : ℕ) → number_of ts t ≡ n → (x : List Term) × (enter ts t ≡ ts ++ x)
    go zero e = (t ∷ [], enter_new ts t e)
    go (suc n) e = ([], enter_there ts t (omega (arith, e)) ∙ sym (append-nil ts))

pub enter_all_front : (ts xs : List Term) → (y : List Term) × (enter_all ts xs ≡ ts ++ y)
enter_all_front ts [] = ([], sym (append-nil ts))
enter_all_front ts (x ∷ xs) =
    let a = enter_front ts x in
    let b = enter_all_front (enter ts x) xs in
    (a.0 ++ b.0, b.1 ∙ ap (λ (l : List Term). l ++ b.0) a.1 ∙ append_assoc ts a.0 b.0)

pub enter_all_append : (ts xs ys : List Term) → enter_all ts (xs ++ ys) ≡ enter_all (enter_all ts xs) ys
enter_all_append ts [] ys = refl
enter_all_append ts (x ∷ xs) ys = enter_all_append (enter ts x) xs ys

pub number_stays : (ts xs : List Term) (t : Term) → 0 < number_of ts t → number_of (enter_all ts xs) t ≡ number_of ts t
number_stays ts xs t h = let f = enter_all_front ts xs in ap (λ (l : List Term). number_of l t) f.1 ∙ number_front ts f.0 t h

-- ---- terms by number

pub term_at_lem : (ts : List Term) (n : ℕ) (d : Term) → n < length ts → term_at ts (suc n) ≡ Some (get_or ts n d)
term_at_lem [] n d h = absurd (omega arith)
term_at_lem (t ∷ ts) zero d h = refl
term_at_lem (t ∷ ts) (suc n) d h = term_at_lem ts n d (omega arith)

pub term_past : (ts : List Term) (n : ℕ) → length ts < n → term_at ts n ≡ None
term_past [] n h = refl
term_past (t ∷ ts) zero h = absurd (omega arith)
term_past (t ∷ ts) (suc zero) h = absurd (omega arith)
term_past (t ∷ ts) (suc (suc n)) h = term_past ts (suc n) (omega arith)

pub term_zero : (ts : List Term) → term_at ts 0 ≡ None
term_zero [] = refl
term_zero (t ∷ ts) = refl

pub number_tells : (ts : List Term) (t : Term) → 0 < number_of ts t → term_at ts (number_of ts t) ≡ Some t
unfolding number_of
number_tells [] t h = absurd (omega arith)
number_tells (s ∷ ts) t h = go (same_term s t) refl h (λ p. number_tells ts t p)
  where
    next : (n : ℕ) → 0 < n → term_at (s ∷ ts) (suc n) ≡ term_at ts n
    next zero h = absurd (omega arith)
    next (suc n) h = refl

    go : (b : Bool) → same_term s t ≡ b → 0 < cond b 1 (one_on (number_of ts t)) → (0 < number_of ts t → term_at ts (number_of ts t) ≡ Some t) → term_at (s ∷ ts) (cond b 1 (one_on (number_of ts t))) ≡ Some t
    go true e h r = ap Some (term_same s t e)
    go false e h r =
        let f = on_some (number_of ts t) h in
        ap (term_at (s ∷ ts)) f.1 ∙ next (number_of ts t) f.0 ∙ r f.0

some_is : (a b : Term) → Some a ≡ Some b → a ≡ b
some_is a b e = cc

none_some : {X : Type 0} (t : Term) → None ≡ Some t → X
none_some t e = let z : ◌≡◌ {A = ℕ} 0 1 = cc in absurd (omega arith)

pub numbers_apart : (ts : List Term) (t u : Term) → 0 < number_of ts t → number_of ts t ≡ number_of ts u → t ≡ u
numbers_apart ts t u h e = some_is t u (sym (number_tells ts t h) ∙ ap (term_at ts) e ∙ number_tells ts u (omega (arith, h, e)))

number_here : (x : Term) (xs : List Term) (t : Term) → x ≡ t → 0 < number_of (x ∷ xs) t
unfolding number_of
number_here x xs t e = subst (λ (b : Bool). 0 < cond b 1 (one_on (number_of xs t))) (sym (ap (λ (s : Term). same_term s t) e ∙ term_self t)) (omega arith)

number_there : (x : Term) (xs : List Term) (t : Term) → 0 < number_of xs t → 0 < number_of (x ∷ xs) t
unfolding number_of
number_there x xs t h = go (same_term x t)
  where
    go : (b : Bool) → 0 < cond b 1 (one_on (number_of xs t))
    go true = omega arith
    go false = omega (arith, some_on (number_of xs t) h)

pub term_numbered : (ts : List Term) (n : ℕ) (t : Term) → term_at ts n ≡ Some t → 0 < number_of ts t
term_numbered [] n t e = none_some t e
term_numbered (x ∷ xs) zero t e = none_some t e
term_numbered (x ∷ xs) (suc zero) t e = number_here x xs t (some_is x t e)
term_numbered (x ∷ xs) (suc (suc n)) t e = number_there x xs t (term_numbered xs (suc n) t e)

pub enter_twice : (ts : List Term) (t : Term) → enter (enter ts t) t ≡ enter ts t
enter_twice ts t = enter_there (enter ts t) t (number_entered ts t)

-- ---- each term once

abbrev pub Once : List Term → Type 0
Once ts = (n : ℕ) (t : Term) → term_at ts n ≡ Some t → number_of ts t ≡ n

at_front : (ts x : List Term) (n : ℕ) → n ≤ length ts → term_at (ts ++ x) n ≡ term_at ts n
at_front [] [] n h = refl
at_front [] (y ∷ x) zero h = refl
at_front [] (y ∷ x) (suc n) h = absurd (omega arith)
at_front (t ∷ ts) x zero h = refl
at_front (t ∷ ts) x (suc zero) h = refl
at_front (t ∷ ts) x (suc (suc n)) h = at_front ts x (suc n) (omega arith)

at_behind : (ts : List Term) (t u : Term) (n : ℕ) → length ts < n → term_at (ts ++ t ∷ []) n ≡ Some u → (n ≡ suc (length ts)) × (t ≡ u)
at_behind [] t u zero h e = absurd (omega arith)
at_behind [] t u (suc zero) h e = (refl, some_is t u e)
at_behind [] t u (suc (suc n)) h e = none_some u e
at_behind (s ∷ ts) t u zero h e = absurd (omega arith)
at_behind (s ∷ ts) t u (suc zero) h e = absurd (omega arith)
at_behind (s ∷ ts) t u (suc (suc n)) h e = let r = at_behind ts t u (suc n) (omega arith) e in (omega (arith, r.0), r.1)

once_behind : (ts : List Term) (x : Term) → number_of ts x ≡ 0 → Once ts → Once (ts ++ x ∷ [])
once_behind ts x new once n t e = go (leb n (length ts)) refl
  where
    go : (b : Bool) → leb n (length ts) ≡ b → number_of (ts ++ x ∷ []) t ≡ n
    go true le =
        let f = sym (at_front ts (x ∷ []) n (leb-true n (length ts) le)) ∙ e in
        number_front ts (x ∷ []) t (term_numbered ts n t f) ∙ once n t f
    go false gt =
        let r = at_behind ts x t n (leb-false n (length ts) gt) e in
        ap (number_of (ts ++ x ∷ [])) (sym r.1) ∙ number_behind ts x new ∙ sym r.0

once_enter : (ts : List Term) (x : Term) → Once ts → Once (enter ts x)
once_enter ts x once = go (number_of ts x) refl
  where
    go : (n : ℕ) → number_of ts x ≡ n → Once (enter ts x)
    go zero e = subst Once (sym (enter_new ts x e)) (once_behind ts x e once)
    go (suc n) e = subst Once (sym (enter_there ts x (omega (arith, e)))) once

pub once_all : (ts xs : List Term) → Once ts → Once (enter_all ts xs)
once_all ts [] once = once
once_all ts (x ∷ xs) once = once_all (enter ts x) xs (once_enter ts x once)

pub each_once : (xs : List Term) (n : ℕ) (t : Term) → term_at (enter_all [] xs) n ≡ Some t → number_of (enter_all [] xs) t ≡ n
each_once xs = once_all [] xs (λ n t e. none_some t e)

-- ---- looking through a list

number_is : (ts : List Term) (t : Term) (i : ℕ) → is_term (term_at ts (suc i)) t ≡ true → ((k : ℕ) → k < i → is_term (term_at ts (suc k)) t ≡ false) → number_of ts t ≡ suc i
unfolding number_of
number_is [] t i found before = let z : ◌≡◌ {A = ℕ} 0 1 = cc in absurd (omega arith)
number_is (x ∷ xs) t zero found before = ap (λ b. cond b 1 (one_on (number_of xs t))) found
number_is (x ∷ xs) t (suc i) found before = ap (λ b. cond b 1 (one_on (number_of xs t))) (before 0 (omega arith)) ∙ ap one_on (number_is xs t i found (λ k h. before (suc k) (omega arith)))

number_not : (ts : List Term) (t : Term) → ((k : ℕ) → k < length ts → is_term (term_at ts (suc k)) t ≡ false) → number_of ts t ≡ 0
unfolding number_of
number_not [] t others = refl
number_not (x ∷ xs) t others = ap (λ b. cond b 1 (one_on (number_of xs t))) (others 0 (omega arith)) ∙ ap one_on (number_not xs t (λ k h. others (suc k) (omega arith)))

-- the first number from 1 on whose term this is
pub number_found : (ts : List Term) (t : Term) (r : Option ℕ) (end : ℕ) → end ≡ length ts + 1
    → MatchOption r ((k : ℕ) → 1 ≤ k → k < end → is_term (term_at ts k) t ≡ false) (λ i. (1 ≤ i) × (i < end) × (is_term (term_at ts i) t ≡ true) × ((k : ℕ) → 1 ≤ k → k < i → is_term (term_at ts k) t ≡ false))
    → r ≡ told_number (number_of ts t)
number_found ts t None end e h = sym (ap told_number (number_not ts t (λ k l. h (suc k) (omega arith) (omega arith))))
number_found ts t (Some zero) end e h = absurd (omega (arith, h.0))
number_found ts t (Some (suc i)) end e h = sym (ap told_number (number_is ts t i h.2 (λ k l. h.3 (suc k) (omega arith) (omega arith))))

-- ---- limits

pub bytes_append : (ts us : List Term) → bytes_of (ts ++ us) ≡ bytes_of ts + bytes_of us
bytes_append [] us = omega arith
bytes_append (t ∷ ts) us = omega (arith, bytes_append ts us)

pub within_is : (ts : List Term) → within ts ≡ true → (length ts ≤ 1024) × (bytes_of ts ≤ 32768)
unfolding within
within_is ts e = (leb-true _ _ (and_left (leb (length ts) 1024) _ e), leb-true _ _ (and_right (leb (length ts) 1024) _ e))

pub is_within : (ts : List Term) → length ts ≤ 1024 → bytes_of ts ≤ 32768 → within ts ≡ true
unfolding within
is_within ts a b = ap₂ ◌&&◌ (le-leb _ _ a) (le-leb _ _ b)

pub not_true : (b : Bool) → (b ≡ true → ⊥) → b ≡ false
not_true true h = absurd (h refl)
not_true false h = refl

pub too_many : (ts : List Term) → 1024 < length ts → within ts ≡ false
too_many ts h = not_true (within ts) (λ e. omega (arith, h, (within_is ts e).0))

pub too_long : (ts : List Term) → 32768 < bytes_of ts → within ts ≡ false
too_long ts h = not_true (within ts) (λ e. omega (arith, h, (within_is ts e).1))

-- what does not fit at the front does not fit as a whole
pub within_front : (ts x : List Term) → within (ts ++ x) ≡ true → within ts ≡ true
within_front ts x e =
    let w = within_is (ts ++ x) e in
    is_within ts (omega (arith, w.0, length-append ts x)) (omega (arith, w.1, bytes_append ts x))

-- ---- admission

pub admit_there : (ts : List Term) (t : Term) (n : ℕ) → within ts ≡ true → n ≡ number_of ts t → 0 < n → (Some n ≡ admitted ts t) × (ts ≡ admit ts t)
admit_there ts t n w e h =
    let there = enter_there ts t (omega (arith, e, h)) in
    let w' : within (enter ts t) ≡ true = ap within there ∙ w in (
      ap Some (e ∙ ap (λ (l : List Term). number_of l t) (sym there)) ∙ sym (ap (λ b. cond b (Some (number_of (enter ts t) t)) None) w'),
      sym (ap (λ b. cond b (enter ts t) ts) w' ∙ there),
    )

pub admit_not : (ts : List Term) (t : Term) → within (enter ts t) ≡ false → (None ≡ admitted ts t) × (ts ≡ admit ts t)
admit_not ts t w = (sym (ap (λ b. cond b (Some (number_of (enter ts t) t)) None) w), sym (ap (λ b. cond b (enter ts t) ts) w))

pub admit_new : (ts : List Term) (t : Term) → number_of ts t ≡ 0 → within (ts ++ t ∷ []) ≡ true → (Some (suc (length ts)) ≡ admitted ts t) × (ts ++ t ∷ [] ≡ admit ts t)
admit_new ts t z w =
    let new = enter_new ts t z in
    let w' : within (enter ts t) ≡ true = ap within new ∙ w in (
      ap Some (sym (number_behind ts t z) ∙ ap (λ (l : List Term). number_of l t) (sym new)) ∙ sym (ap (λ b. cond b (Some (number_of (enter ts t) t)) None) w'),
      sym (ap (λ b. cond b (enter ts t) ts) w' ∙ new),
    )
