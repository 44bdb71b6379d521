-- Text that is added piece by piece.
use Rattle.std.proofs.Common.{◌≡◌, ℕ, suc, ◌+◌, ◌-◌, ◌<◌, List, ◌++◌, map, IfOk, Ok, Err, codes, Result, sym, ap, ◌∙◌, append_assoc, arith}
use Rattle.terms.specs.Terms.{Term}
use Rattle.question.specs.Arena.{up_from}
use Rattle.outline.specs.Outlined.{Adds, term_text, members_text}

made_then : {X Y : Type 0} (r : Result X Y) (w x y a b : List ℕ) → x ≡ w ++ a → IfOk r (λ _. y ≡ x ++ b) → IfOk r (λ _. y ≡ w ++ (a ++ b))
made_then (Ok u) w x y a b p q = q ∙ ap (λ l. l ++ b) p ∙ append_assoc w a b
made_then (Err u) w x y a b p q = tt

-- a call that adds, after one that added
pub then : {X Y Z W : Type 0} {r : Result X Y} {u : Z} {w x y a b : List ℕ} → Adds {X = Z} {Y = W} (Ok u) w x a → Adds r x y b → Adds r w y (a ++ b)
then {X} {Y} {Z} {W} {r} {u} {w} {x} {y} {a} {b} p q = record { wrote = made_then r w x y a b p.wrote q.wrote }

made_as : {X Y : Type 0} (r : Result X Y) (x y a b : List ℕ) → a ≡ b → IfOk r (λ _. y ≡ x ++ a) → IfOk r (λ _. y ≡ x ++ b)
made_as (Ok u) x y a b e p = p ∙ ap (λ l. x ++ l) e
made_as (Err u) x y a b e p = tt

pub adds_as : {X Y : Type 0} {r : Result X Y} {x y a b : List ℕ} → a ≡ b → Adds r x y a → Adds r x y b
adds_as {X} {Y} {r} {x} {y} {a} {b} e p = record { wrote = made_as r x y a b e p.wrote }

-- ---- lists, from the front: what is written and what is left make up the whole

-- one member more
pub member_more : (f : ℕ → Term) (first count i m : ℕ) (whole x y z : List ℕ) → i < count → f m ≡ f (first + i) → y ≡ x ++ codes " " → z ≡ y ++ term_text (f m) → x ++ members_text (map f (up_from (first + i) (count - i))) ≡ whole → z ++ members_text (map f (up_from (first + (i + 1)) (count - (i + 1)))) ≡ whole
member_more f first count i m whole x y z lt same p q h =
    let n = count - (i + 1) in
    let more : count - i ≡ suc n = omega arith in
    let next : first + i + 1 ≡ first + (i + 1) = omega arith in
    let rest = members_text (map f (up_from (first + (i + 1)) n)) in
    let opened : members_text (map f (up_from (first + i) (count - i))) ≡ codes " " ++ (term_text (f (first + i)) ++ rest) =
    ap (λ k. members_text (map f (up_from (first + i) k))) more ∙ ap (λ k. codes " " ++ (term_text (f (first + i)) ++ members_text (map f (up_from k n)))) next in
    ap (λ l. l ++ rest) (q ∙ ap (λ t. y ++ term_text t) same ∙ ap (λ l. l ++ term_text (f (first + i))) p)
    ∙ append_assoc (x ++ codes " ") (term_text (f (first + i))) rest ∙ append_assoc x (codes " ") (term_text (f (first + i)) ++ rest)
    ∙ ap (λ l. x ++ l) (sym opened) ∙ h
