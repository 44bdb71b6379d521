-- Lists whose members all pass a test.
use Rattle.std.proofs.Common.{◌≡◌, Bool, true, List, [], ◌∷◌, ap, ◌∙◌, inl, inr}
use Rattle.std.proofs.lemmas.Bool.{and_parts}
use Rattle.std.specs.List.{list_all}
use Rattle.terms.specs.Terms.{Term}
use Rattle.semantics.specs.Terms.{In, has}
use Rattle.semantics.specs.Webs.{by_bytes}
use Rattle.semantics.proofs.Lists.{has_in}
use Rattle.semantics.proofs.Bytes.{by_bytes_exact}

-- a member of a list whose members all pass a test
pub each_passes : {B : Type 0} (p : B → Bool) (l : List B) → list_all p l ≡ true → (a : B) → In a l → p a ≡ true
each_passes {B} p [] h a i = elim i [ ]
each_passes {B} p (b ∷ l) h a (inl i) = ap p i ∙ (and_parts (p b) (list_all p l) h).0
each_passes {B} p (b ∷ l) h a (inr i) = each_passes {B = B} p l (and_parts (p b) (list_all p l) h).1 a i

-- every term of one list stands in another
abbrev pub within : List Term → List Term → Bool
within l U = list_all (λ a. has by_bytes a U) l

pub within_has : (l U : List Term) → within l U ≡ true → (a : Term) → has by_bytes a l ≡ true → has by_bytes a U ≡ true
within_has l U h a e = each_passes (λ b. has by_bytes b U) l h a (has_in by_bytes_exact a l e)
