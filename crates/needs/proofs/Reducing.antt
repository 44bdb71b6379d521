-- What `reduce` gives over a chain, where the closure is a function.
use Rattle.std.proofs.Common.{◌≡◌, List, [], ◌∷◌, Some, None, Option, ap, subst}
use Rattle.std.proofs.lemmas.Iterator.{YieldsList}
use Rattle.std.proofs.lemmas.Iterator.Consumers.{reduce_from_yields_List}
use Rattle.std.specs.Fn.{Called}
use Rattle.std.specs.Iterator.{ReducesItems}
use Rattle.std.specs.List.{FoldsTo, reduce}
use denote.Param.Members.{Mut}

turns : {A F : Type 0} (g : Mut F (A × (A × Unit {0})) A) (h : A → A → A) (f j : F) → ((p x y : A) (q : F) → Called g f (p, (x, tt)) y q → (q ≡ f) × (y ≡ h p x)) → (x y : A) (xs : List A) → FoldsTo {P = F × A} (λ p z q. Called g p.0 (p.1, (z, tt)) q.1 q.0) (f, x) xs (j, y) → FoldsTo (λ p z c. c ≡ h p z) x xs y
turns g h f j calls x y [] t = ap (λ p. p.1) t
turns {A} {F} g h f j calls x y (z ∷ xs) t =
    let k = calls x z t.0.1 t.0.0 t.1 in
    let rest = subst (λ (q : F). FoldsTo {P = F × A} (λ p w q. Called g p.0 (p.1, (w, tt)) q.1 q.0) (q, t.0.1) xs (j, y)) k.0 t.2 in
    (t.0.1, k.1, turns g h f j calls t.0.1 y xs rest)

pub reduced : {S A F : Type 0} {steps : S → Option A → S → Type 0} {all : List A} (g : Mut F (A × (A × Unit {0})) A) (h : A → A → A) (s : S) (f : F) (r : Option A) → ReducesItems steps g s f r → YieldsList steps (λ x. x) s all → ((p x y : A) (q : F) → Called g f (p, (x, tt)) y q → (q ≡ f) × (y ≡ h p x)) → r ≡ reduce h all
reduced g h s f None ran chain calls = reduce_from_yields_List h s None ran chain
reduced g h s f (Some y) ran chain calls = reduce_from_yields_List h s (Some y) (ran.0, ran.1, ran.3, turns g h f ran.2 calls ran.0 y ran.1 ran.4) chain
