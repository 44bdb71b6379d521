-- The first byte that is c, by the bytes before it.
use Rattle.std.proofs.Common.{◌≡◌, ℕ, Bool, true, false, not, eqb, List, length, get_or, take_while, Some, None, Option, sym, refl, ap, ◌∙◌, arith}
use Rattle.std.specs.Option.{unwrap_or}
use Rattle.std.proofs.lemmas.List.Folds.{length-prefix_len}
use Rattle.std.proofs.lemmas.List.Sums.{prefix_len_is}
use Rattle.memchr.specs.Find.{IsFirstByte, is_byte}
use Rattle.lines.specs.Runs.{differs}

else_false : (t : Bool) → (t ≡ true → ⊥) → t ≡ false
else_false true f = absurd (f refl)
else_false false f = refl

pub before_first : (c : ℕ) (bs : List ℕ) (r : Option ℕ) → IsFirstByte (is_byte c) bs r → unwrap_or r (length bs) ≡ length (take_while (differs c) bs)
before_first c bs None h =
    sym (length-prefix_len (differs c) bs ∙ prefix_len_is (differs c) bs (length bs) 0 (omega arith) (λ k l. ap not (else_false (eqb (get_or bs k 0) c) (h k (omega arith) l))) (λ l. absurd (omega arith)))
before_first c bs (Some n) h =
    sym (length-prefix_len (differs c) bs ∙ prefix_len_is (differs c) bs n 0 (omega (arith, h.0.high)) (λ k l. ap not (else_false (eqb (get_or bs k 0) c) (h.0.before k (omega arith) l))) (λ l. ap not h.1))
