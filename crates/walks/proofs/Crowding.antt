-- Lists without repeats, and crowds.
use Rattle.std.proofs.Common.{◌≡◌, suc, ◌≤◌, List, [], ◌∷◌, length, sym, ap, ◌∙◌, subst, inl, inr, refl, arith}
use Rattle.semantics.specs.Terms.{In}
use Rattle.walks.specs.Crowds.{Apart, Crowd}

-- a list without one of its members
abbrev pub removed : {B : Type 0} (l : List B) (x : B) → In x l → List B
removed [] x i = []
removed (y ∷ l) x (inl i) = l
removed (y ∷ l) x (inr i) = y ∷ removed l x i

pub removed_length : {B : Type 0} (l : List B) (x : B) (i : In x l) → length l ≡ suc (length (removed l x i))
removed_length [] x i = elim i [ ]
removed_length (y ∷ l) x (inl i) = refl
removed_length (y ∷ l) x (inr i) = ap suc (removed_length l x i)

pub in_removed : {B : Type 0} (l : List B) (x : B) (i : In x l) (z : B) → In z l → (z ≡ x → ⊥) → In z (removed l x i)
in_removed [] x i z j n = elim i [ ]
in_removed (y ∷ l) x (inl i) z (inl j) n = absurd (n (j ∙ sym i))
in_removed (y ∷ l) x (inl i) z (inr j) n = j
in_removed (y ∷ l) x (inr i) z (inl j) n = inl j
in_removed (y ∷ l) x (inr i) z (inr j) n = inr (in_removed l x i z j n)

pub removed_in : {B : Type 0} (l : List B) (x : B) (i : In x l) (z : B) → In z (removed l x i) → In z l
removed_in [] x i z j = elim i [ ]
removed_in (y ∷ l) x (inl i) z j = inr j
removed_in (y ∷ l) x (inr i) z (inl j) = inl j
removed_in (y ∷ l) x (inr i) z (inr j) = inr (removed_in l x i z j)

pub removed_apart : {B : Type 0} (l : List B) (x : B) (i : In x l) → Apart l → Apart (removed l x i)
removed_apart [] x i a = elim i [ ]
removed_apart (y ∷ l) x (inl i) a = a.1
removed_apart (y ∷ l) x (inr i) a = (λ j. a.0 (removed_in l x i y j), removed_apart l x i a.1)

pub removed_gone : {B : Type 0} (l : List B) (x : B) (i : In x l) → Apart l → In x (removed l x i) → ⊥
removed_gone [] x i a j = elim i [ ]
removed_gone (y ∷ l) x (inl i) a j = a.0 (subst (λ z. In z l) i j)
removed_gone (y ∷ l) x (inr i) a (inl j) = a.0 (subst (λ z. In z l) j i)
removed_gone (y ∷ l) x (inr i) a (inr j) = removed_gone l x i a.1 j

abbrev pub Part : {B : Type 0} → List B → List B → Type 0
Part {B} l m = (z : B) → In z l → In z m

-- a list without repeats is no longer than one that has all its members
pub apart_length : {B : Type 0} (l m : List B) → Apart l → Part l m → length l ≤ length m
apart_length [] m a h = omega arith
apart_length (x ∷ l) m a h =
    let i = h x (inl refl) in
    let r = apart_length l (removed m x i) a.1 (λ z j. in_removed m x i z (h z (inr j)) (λ e. a.0 (subst (λ y. In y l) e j))) in
    omega (arith, r, removed_length m x i)

pub no_crowd : {B : Type 0} (P : B → Type 0) (m : List B) → length m ≤ 256 → ((x : B) → P x → In x m) → Crowd P → ⊥
no_crowd P m le h c = let r = apart_length c.members m c.apart (λ z i. h z (c.each z i)) in let s = c.many in omega (arith, r, s, le)

pub crowd_more : {B : Type 0} (P Q : B → Type 0) → ((x : B) → P x → Q x) → Crowd P → Crowd Q
crowd_more P Q h c = record { members = c.members; apart = c.apart; many = c.many; each = λ x i. h x (c.each x i) }
