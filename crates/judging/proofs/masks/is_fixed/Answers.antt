use Rattle.std.proofs.Common.{◌≡◌, ℕ, ◌/◌, ◌%◌, ◌^◌, eqb, sym, ap, ◌∙◌, arith}
use lib.Bits.{bit_and, and_step, and_zero_r}
use Rattle.grammar.specs.Bounded.{fixed}
use Rattle.grammar.specs.Masks.{member}
use Rattle.question.specs.Arena.{end_of}
use Rattle.judging.proofs.masks.is_fixed.Goals as goal

last_bit : (n : ℕ) → bit_and n 1 ≡ n % 2
last_bit n = omega (arith, and_step n 1, and_zero_r (n / 2))

pub returns-in-Variable : goal.returns-in-Variable
returns-in-Variable c = λ term. ap (λ n. eqb n 1) (last_bit (c.args.fixed / 2 ^ c.in-Variable.v.number)) ∙ ap (λ e. fixed (member c.args.fixed) (end_of term (λ v. v) e)) (sym c.in-Variable.is)
