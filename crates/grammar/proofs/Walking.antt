-- A line is bounded exactly where its path can be walked from the ends that are fixed.
use Rattle.std.proofs.Common.{◌≡◌, ℕ, suc, Bool, true, false, ◌&&◌, ◌||◌, eqb, ◌⊎◌, sym, refl, ap, ◌∙◌, inl, inr, arith, ne_eqb, eqb-true}
use Rattle.terms.specs.Terms.{Term}
use Rattle.grammar.specs.Syntax.{Path, link, negated, inverse, star, sequence, alternative, End, constant, variable}
use Rattle.grammar.specs.Bounded.{Vars, both, just, of_end, sure_line, fixed, raised, raised_vars, BoundedLine}
use Rattle.grammar.specs.Walkable.{walkable, EndsDecide}

clash : false ≡ true → ⊥
clash e = let z : ◌≡◌ {A = ℕ} 0 1 = cc in omega arith

-- ---- tests

pub and_true : (a b : Bool) → a && b ≡ true → (a ≡ true) × (b ≡ true)
and_true true true e = (refl, refl)
and_true true false e = absurd (clash e)
and_true false b e = absurd (clash e)

pub true_and : (a b : Bool) → a ≡ true → b ≡ true → a && b ≡ true
true_and a b e f = (λ i. e i && f i)

pub or_true : (a b : Bool) → a || b ≡ true → (a ≡ true) ⊎ (b ≡ true)
or_true true b e = inl refl
or_true false b e = inr e

pub true_or : (a b : Bool) → (a ≡ true) ⊎ (b ≡ true) → a || b ≡ true
true_or true b e = refl
true_or false b (inl e) = absurd (clash e)
true_or false b (inr e) = e

-- ---- a walk begins at an end that is fixed

begins : (p : Path Term) (l r : Bool) → walkable p l r ≡ true → l || r ≡ true
begins (link u) l r e = ap (λ b. b || r) e
begins (negated us) l r e = ap (λ b. b || r) e
begins (inverse p) l r e = true_or l r (swap (or_true r l (begins p r l e)))
  where
    swap : (r ≡ true) ⊎ (l ≡ true) → (l ≡ true) ⊎ (r ≡ true)
    swap (inl x) = inr x
    swap (inr x) = inl x
begins (star p) l r e = true_or l r (go (or_true (l && walkable p true false) (r && walkable p false true) e))
  where
    go : ((l && walkable p true false) ≡ true) ⊎ ((r && walkable p false true) ≡ true) → (l ≡ true) ⊎ (r ≡ true)
    go (inl x) = inl (and_true l (walkable p true false) x).0
    go (inr x) = inr (and_true r (walkable p false true) x).0
begins (sequence p q) l r e = true_or l r (go (begins p l false) (begins q false r) (or_true (walkable p l false && walkable q true r) (walkable q false r && walkable p l true) e))
  where
    left : (b : Bool) → b || false ≡ true → b ≡ true
    left true x = refl
    left false x = x

    go : (walkable p l false ≡ true → l || false ≡ true) → (walkable q false r ≡ true → false || r ≡ true) → ((walkable p l false && walkable q true r) ≡ true) ⊎ ((walkable q false r && walkable p l true) ≡ true) → (l ≡ true) ⊎ (r ≡ true)
    go f g (inl x) = inl (left l (f (and_true (walkable p l false) (walkable q true r) x).0))
    go f g (inr x) = inr (g (and_true (walkable q false r) (walkable p l true) x).0)
begins (alternative p q) l r e = begins p l r (and_true (walkable p l r) (walkable q l r) e).0

-- ---- the middle of a sequence

raised_fixed : (X : Vars) (a : End Term ℕ) → fixed (raised_vars X) (raised a) ≡ fixed X a
raised_fixed X (constant t) = refl
raised_fixed X (variable v) = refl

not_zero : (v : ℕ) → just 0 (suc v) ≡ false
not_zero v = ne_eqb (suc v) 0 (λ e. omega (arith, e))

or_false : (b : Bool) → b || false ≡ b
or_false true = refl
or_false false = refl

or_true_right : (b : Bool) → b || true ≡ true
or_true_right true = refl
or_true_right false = refl

-- an end that is fixed already adds nothing
absorbed : (X : Vars) (a : End Term ℕ) → fixed X a ≡ true → (v : ℕ) → X v || of_end (raised a) (suc v) ≡ X v
absorbed X (constant t) known v = or_false (X v)
absorbed X (variable w) known v = go (eqb (suc v) (suc w)) refl
  where
    go : (b : Bool) → eqb (suc v) (suc w) ≡ b → X v || eqb (suc v) (suc w) ≡ X v
    go true e =
        let same : w ≡ v = omega (arith, eqb-true (suc v) (suc w) e) in
        let here : X v ≡ true = ap X (sym same) ∙ known in
        ap (λ b. b || eqb (suc v) (suc w)) here ∙ sym here
    go false e = ap (λ b. X v || b) e ∙ or_false (X v)

-- behind the first part the middle is fixed, and of the ends what was fixed before
module _ (X : Vars) (a : End Term ℕ) (known : fixed X a ≡ true) where
  abbrev after : Vars
  after = both (raised_vars X) (sure_line (raised a) (variable 0))

  abbrev before : Vars
  before = both (raised_vars X) (sure_line (variable 0) (raised a))

  still_after : (b : End Term ℕ) → fixed (both (raised_vars X) (sure_line (raised a) (variable 0))) (raised b) ≡ fixed X b
  still_after (constant t) = refl
  still_after (variable v) = ap (λ c. X v || (of_end (raised a) (suc v) || c)) (not_zero v) ∙ ap (λ c. X v || c) (or_false (of_end (raised a) (suc v))) ∙ absorbed X a known v

  still_before : (b : End Term ℕ) → fixed (both (raised_vars X) (sure_line (variable 0) (raised a))) (raised b) ≡ fixed X b
  still_before (constant t) = refl
  still_before (variable v) = ap (λ c. X v || (c || of_end (raised a) (suc v))) (not_zero v) ∙ absorbed X a known v

middle_after : (X : Vars) (a : End Term ℕ) → both (raised_vars X) (sure_line (raised a) (variable 0)) 0 ≡ true
middle_after X a = or_true_right (of_end (raised a) 0)

middle_before : (X : Vars) (a : End Term ℕ) → both (raised_vars X) (sure_line (variable 0) (raised a)) 0 ≡ true
middle_before X a = refl

-- ---- both ways

only_left : (b : Bool) → b || false ≡ true → b ≡ true
only_left true x = refl
only_left false x = x

abbrev Decides : Path Term → Type 0
Decides p = (X : Vars) (a b : End Term ℕ) → (BoundedLine p X a b → walkable p (fixed X a) (fixed X b) ≡ true) × (walkable p (fixed X a) (fixed X b) ≡ true → BoundedLine p X a b)

module _ (p q : Path Term) (h : Decides p) (k : Decides q) (X : Vars) (a b : End Term ℕ) where
  abbrev l : Bool
  l = fixed X a

  abbrev r : Bool
  r = fixed X b

  -- the parts as lines of their own, by the ends alone
  first_as : walkable p (fixed (raised_vars X) (raised a)) false ≡ walkable p (fixed X a) false
  first_as = ap (λ c. walkable p c false) (raised_fixed X a)

  last_as : walkable q false (fixed (raised_vars X) (raised b)) ≡ walkable q false (fixed X b)
  last_as = ap (λ c. walkable q false c) (raised_fixed X b)

  second_as : fixed X a ≡ true → walkable q (both (raised_vars X) (sure_line (raised a) (variable 0)) 0) (fixed (both (raised_vars X) (sure_line (raised a) (variable 0))) (raised b)) ≡ walkable q true (fixed X b)
  second_as known = λ i. walkable q (middle_after X a i) (still_after X a known b i)

  other_as : fixed X b ≡ true → walkable p (fixed (both (raised_vars X) (sure_line (variable 0) (raised b))) (raised a)) (both (raised_vars X) (sure_line (variable 0) (raised b)) 0) ≡ walkable p (fixed X a) true
  other_as known = λ i. walkable p (still_before X b known a i) (middle_before X b i)

  to : BoundedLine (sequence p q) X a b → walkable (sequence p q) (fixed X a) (fixed X b) ≡ true
  to (inl e) =
      let one = sym first_as ∙ (h (raised_vars X) (raised a) (variable 0)).0 e.0 in
      let known = only_left (fixed X a) (begins p (fixed X a) false one) in
      let two = sym (second_as known) ∙ (k (both (raised_vars X) (sure_line (raised a) (variable 0))) (variable 0) (raised b)).0 e.1 in
      true_or (walkable p l false && walkable q true r) (walkable q false r && walkable p l true) (inl (true_and (walkable p l false) (walkable q true r) one two))
  to (inr e) =
      let one = sym last_as ∙ (k (raised_vars X) (variable 0) (raised b)).0 e.0 in
      let known = begins q false (fixed X b) one in
      let two = sym (other_as known) ∙ (h (both (raised_vars X) (sure_line (variable 0) (raised b))) (raised a) (variable 0)).0 e.1 in
      true_or (walkable p l false && walkable q true r) (walkable q false r && walkable p l true) (inr (true_and (walkable q false r) (walkable p l true) one two))

  back : ((walkable p l false && walkable q true r) ≡ true) ⊎ ((walkable q false r && walkable p l true) ≡ true) → BoundedLine (sequence p q) X a b
  back (inl e) =
      let both-are = and_true (walkable p l false) (walkable q true r) e in
      let known = only_left (fixed X a) (begins p (fixed X a) false both-are.0) in
      inl ((h (raised_vars X) (raised a) (variable 0)).1 (first_as ∙ both-are.0), (k (both (raised_vars X) (sure_line (raised a) (variable 0))) (variable 0) (raised b)).1 (second_as known ∙ both-are.1))
  back (inr e) =
      let both-are = and_true (walkable q false r) (walkable p l true) e in
      let known = begins q false (fixed X b) both-are.0 in
      inr ((k (raised_vars X) (variable 0) (raised b)).1 (last_as ∙ both-are.0), (h (both (raised_vars X) (sure_line (variable 0) (raised b))) (raised a) (variable 0)).1 (other_as known ∙ both-are.1))

  in_sequence : (BoundedLine (sequence p q) X a b → walkable (sequence p q) (fixed X a) (fixed X b) ≡ true) × (walkable (sequence p q) (fixed X a) (fixed X b) ≡ true → BoundedLine (sequence p q) X a b)
  in_sequence = (to, λ e. back (or_true (walkable p l false && walkable q true r) (walkable q false r && walkable p l true) e))

module _ (p : Path Term) (h : Decides p) (X : Vars) (a b : End Term ℕ) where
  star_to : BoundedLine (star p) X a b → walkable (star p) (fixed X a) (fixed X b) ≡ true
  star_to (inl e) = true_or (fixed X a && walkable p true false) (fixed X b && walkable p false true) (inl (true_and (fixed X a) (walkable p true false) e.0 ((h (just 0) (variable 0) (variable 1)).0 e.1)))
  star_to (inr e) = true_or (fixed X a && walkable p true false) (fixed X b && walkable p false true) (inr (true_and (fixed X b) (walkable p false true) e.0 ((h (just 1) (variable 0) (variable 1)).0 e.1)))

  star_back : ((fixed X a && walkable p true false) ≡ true) ⊎ ((fixed X b && walkable p false true) ≡ true) → BoundedLine (star p) X a b
  star_back (inl e) = let x = and_true (fixed X a) (walkable p true false) e in inl (x.0, (h (just 0) (variable 0) (variable 1)).1 x.1)
  star_back (inr e) = let x = and_true (fixed X b) (walkable p false true) e in inr (x.0, (h (just 1) (variable 0) (variable 1)).1 x.1)

pub ends_decide : EndsDecide
ends_decide (link u) X a b = ((λ e. e), λ e. e)
ends_decide (negated us) X a b = ((λ e. e), λ e. e)
ends_decide (inverse p) X a b = ends_decide p X b a
ends_decide (star p) X a b = (star_to p (ends_decide p) X a b, λ e. star_back p (ends_decide p) X a b (or_true (fixed X a && walkable p true false) (fixed X b && walkable p false true) e))
ends_decide (sequence p q) X a b = in_sequence p q (ends_decide p) (ends_decide q) X a b
ends_decide (alternative p q) X a b = (
  (λ e. true_and (walkable p (fixed X a) (fixed X b)) (walkable q (fixed X a) (fixed X b)) ((ends_decide p X a b).0 e.0) ((ends_decide q X a b).0 e.1)),
  λ e. let x = and_true (walkable p (fixed X a) (fixed X b)) (walkable q (fixed X a) (fixed X b)) e in ((ends_decide p X a b).1 x.0, (ends_decide q X a b).1 x.1),
)
