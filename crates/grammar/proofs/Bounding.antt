-- The laws of bounded questions.
use Rattle.std.proofs.Common.{◌≡◌, ℕ, zero, suc, Bool, true, false, ◌&&◌, ◌||◌, sym, refl, ap, ◌∙◌, inl, inr, arith}
use Rattle.terms.specs.Terms.{Term}
use Rattle.grammar.specs.Syntax.{Path, link, negated, inverse, star, sequence, alternative, End, constant, variable, empty, line, and, union, opt}
use Rattle.grammar.specs.Bounded.{Vars, none, both, sure_line, sure, fixed, raised, raised_vars, BoundedLine, Bounded, Asks, Within, BoundedByMore, Exchanged, and_sides, union_sides, in_and, in_union, in_opt, as_it_was, again, ExchangeKeepsBounds, hop, regrouped, RegroupingCanUnbind}

clash : false ≡ true → ⊥
clash e = let z : ◌≡◌ {A = ℕ} 0 1 = cc in omega arith

-- ---- more is fixed

either_more : (a b c : Bool) → (a ≡ true → b ≡ true) → a || c ≡ true → b || c ≡ true
either_more true b c h e = ap (λ x. x || c) (h refl)
either_more false true c h e = refl
either_more false false c h e = e

both_more : (X Y Z : Vars) → Within X Y → Within (both X Z) (both Y Z)
both_more X Y Z h v e = either_more (X v) (Y v) (Z v) (h v) e

raised_more : (X Y : Vars) → Within X Y → Within (raised_vars X) (raised_vars Y)
raised_more X Y h zero e = e
raised_more X Y h (suc v) e = h v e

fixed_more : (X Y : Vars) → Within X Y → (a : End Term ℕ) → fixed X a ≡ true → fixed Y a ≡ true
fixed_more X Y h (constant t) e = e
fixed_more X Y h (variable v) e = h v e

line_more : (p : Path Term) (X Y : Vars) → Within X Y → (a b : End Term ℕ) → BoundedLine p X a b → BoundedLine p Y a b
line_more (link u) X Y h a b e = fixed_more X Y h a e
line_more (negated us) X Y h a b e = fixed_more X Y h a e
line_more (inverse p) X Y h a b e = line_more p X Y h b a e
line_more (star p) X Y h a b (inl e) = inl (fixed_more X Y h a e.0, e.1)
line_more (star p) X Y h a b (inr e) = inr (fixed_more X Y h b e.0, e.1)
line_more (sequence p q) X Y h a b (inl e) =
    inl (
      line_more p (raised_vars X) (raised_vars Y) (raised_more X Y h) (raised a) (variable 0) e.0,
      line_more q (both (raised_vars X) (sure_line (raised a) (variable 0))) (both (raised_vars Y) (sure_line (raised a) (variable 0))) (both_more (raised_vars X) (raised_vars Y) (sure_line (raised a) (variable 0)) (raised_more X Y h)) (variable 0) (raised b) e.1,
    )
line_more (sequence p q) X Y h a b (inr e) =
    inr (
      line_more q (raised_vars X) (raised_vars Y) (raised_more X Y h) (variable 0) (raised b) e.0,
      line_more p (both (raised_vars X) (sure_line (variable 0) (raised b))) (both (raised_vars Y) (sure_line (variable 0) (raised b))) (both_more (raised_vars X) (raised_vars Y) (sure_line (variable 0) (raised b)) (raised_more X Y h)) (raised a) (variable 0) e.1,
    )
line_more (alternative p q) X Y h a b e = (line_more p X Y h a b e.0, line_more q X Y h a b e.1)

pub bounded_by_more : BoundedByMore
bounded_by_more empty X Y h e = tt
bounded_by_more (line a p b) X Y h e = line_more p X Y h a b e
bounded_by_more (and p q) X Y h (inl e) = inl (bounded_by_more p X Y h e.0, bounded_by_more q (both X (sure p)) (both Y (sure p)) (both_more X Y (sure p) h) e.1)
bounded_by_more (and p q) X Y h (inr e) = inr (bounded_by_more q X Y h e.0, bounded_by_more p (both X (sure q)) (both Y (sure q)) (both_more X Y (sure q) h) e.1)
bounded_by_more (union p q) X Y h e = (bounded_by_more p X Y h e.0, bounded_by_more q X Y h e.1, e.2)
bounded_by_more (opt p q) X Y h e = (bounded_by_more p X Y h e.0, e.1)

-- ---- sides exchanged

or_comm : (a b : Bool) → a || b ≡ b || a
or_comm true true = refl
or_comm true false = refl
or_comm false true = refl
or_comm false false = refl

and_comm : (a b : Bool) → a && b ≡ b && a
and_comm true true = refl
and_comm true false = refl
and_comm false true = refl
and_comm false false = refl

-- by a set with the same variables
pub by_same : (p : Asks) (X Y : Vars) → ((v : ℕ) → X v ≡ Y v) → Bounded p X → Bounded p Y
by_same p X Y h e = bounded_by_more p X Y (λ v f. sym (h v) ∙ f) e

both_same : (X Y Z : Vars) → ((v : ℕ) → Y v ≡ Z v) → (v : ℕ) → both X Y v ≡ both X Z v
both_same X Y Z h v = ap (λ b. X v || b) (h v)

abbrev Keeps : Asks → Asks → Type 0
Keeps p q = ((v : ℕ) → sure p v ≡ sure q v) × ((X : Vars) → Bounded p X → Bounded q X)

and_swaps : (p q : Asks) (X : Vars) → Bounded (and p q) X → Bounded (and q p) X
and_swaps p q X (inl e) = inr e
and_swaps p q X (inr e) = inl e

and_keeps : (p q r s : Asks) → Keeps p r → Keeps q s → (X : Vars) → Bounded (and p q) X → Bounded (and r s) X
and_keeps p q r s h k X (inl e) = inl (h.1 X e.0, by_same s (both X (sure p)) (both X (sure r)) (both_same X (sure p) (sure r) h.0) (k.1 (both X (sure p)) e.1))
and_keeps p q r s h k X (inr e) = inr (k.1 X e.0, by_same r (both X (sure q)) (both X (sure s)) (both_same X (sure q) (sure s) k.0) (h.1 (both X (sure q)) e.1))

keeps : {p q : Asks} → Exchanged p q → Keeps p q
keeps (and_sides p q) = ((λ v. or_comm (sure p v) (sure q v)), and_swaps p q)
keeps (union_sides p q) = ((λ v. and_comm (sure p v) (sure q v)), λ X e. (e.1, e.0, λ v. sym (e.2 v)))
keeps (in_and {p} {q} {r} {s} x y) = let h = keeps x in let k = keeps y in ((λ v. (λ i. h.0 v i || k.0 v i)), and_keeps p q r s h k)
keeps (in_union {p} {q} {r} {s} x y) =
    let h = keeps x in let k = keeps y in
    ((λ v. (λ i. h.0 v i && k.0 v i)), λ X e. (h.1 X e.0, k.1 X e.1, λ v. sym (h.0 v) ∙ e.2 v ∙ k.0 v))
keeps (in_opt {p} {q} {r} {s} x y) = let h = keeps x in let k = keeps y in (h.0, λ X e. (h.1 X e.0, by_same s (sure p) (sure r) h.0 (k.1 (sure p) e.1)))
keeps (as_it_was p) = ((λ v. refl), λ X e. e)
keeps (again x y) = let h = keeps x in let k = keeps y in ((λ v. h.0 v ∙ k.0 v), λ X e. k.1 X (h.1 X e))

pub exchange_keeps_bounds : ExchangeKeepsBounds
exchange_keeps_bounds p q x = keeps x

-- ---- regrouped

second : (u : Term) → Bounded (and (hop u 1 2) (line (constant u) (link u) (variable 0))) none → ⊥
second u (inl e) = clash e.0
second u (inr e) = clash e.1

unbound : (u : Term) → Bounded (regrouped u) none → ⊥
unbound u (inl e) = clash e.0
unbound u (inr e) = second u e.0

pub regrouping_can_unbind : RegroupingCanUnbind
regrouping_can_unbind u = (inr (refl, inl (refl, refl)), unbound u)
