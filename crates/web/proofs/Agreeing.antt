-- Webs that agree answer alike.
use Rattle.std.proofs.Common.{ℕ, Err, ap, ap₂, refl}
use Rattle.web.specs.Agreement.{Alike, AnswerAlike}
use Rattle.web.specs.Answers.{tells, leaves}
use Rattle.web.specs.Meaning.{Looked, found, absent, broken, Mark, listed, part_of, told}

pub answers_alike : {C D : Type 0} (f : C → Mark) (g : D → Mark) (k : Looked C) (l : Looked D) → Alike (told f k) (told g l) → AnswerAlike f g k l
answers_alike f g (found ts) (found us) e = record {
  lookups = cc;
  reads = λ place part buffer. ap (λ xs. tells (part_of part (listed place xs)) buffer) e;
  buffers = λ place part buffer. ap (λ xs. leaves (part_of part (listed place xs)) buffer) e;
}
answers_alike f g (found ts) absent e = absurd e
answers_alike f g (found ts) (broken d) e = absurd e
answers_alike f g absent (found us) e = absurd e
answers_alike f g absent absent e = record { lookups = refl; reads = λ place part buffer. refl; buffers = λ place part buffer. refl }
answers_alike f g absent (broken d) e = absurd e
answers_alike f g (broken c) (found us) e = absurd e
answers_alike f g (broken c) absent e = absurd e
answers_alike f g (broken c) (broken d) e = record { lookups = ap₂ (λ (code place : ℕ). Err (record { code = code; place = place })) e.0 e.1; reads = λ place part buffer. refl; buffers = λ place part buffer. refl }
