-- Texts that are too long have one answer.
use Rattle.std.proofs.Common.{ℕ, ◌<◌, List, length, Ok, Err, Result, arith}
use Rattle.grammar.specs.declared.refusal.Refusal.{Refusal}
use Rattle.grammar.specs.declared.refusal.Refusal.TheVariants.{TextTooLong, TooManyNodes, At}
use Rattle.grammar.specs.Reading.{Asked}
use Rattle.question.specs.Answers.{Answer}

pub too_long : (text t : List ℕ) (before : Asked) (r : Result (Unit {0}) Refusal) (after : Asked) → 2048 < length text → 2048 < length t → Answer t before r after → Answer text before r after
too_long text t before (Ok u) after h k a = absurd (omega (arith, a.lawful.short))
too_long text t before (Err TextTooLong) after h k a = (h, a.1)
too_long text t before (Err TooManyNodes) after h k a = absurd (omega (arith, a.0.1.short))
too_long text t before (Err (At f)) after h k a = absurd (omega (arith, a.0.0))
