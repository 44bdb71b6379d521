-- The answer to the question of an input's front is the answer to the question of the input.
use Rattle.std.proofs.Common.{◌≡◌, ℕ, ◌<◌, ◌≤◌, ◌⊎◌, List, length, take, Ok, Err, Result, sym, ap, subst, inl, inr, arith}
use Rattle.std.proofs.lemmas.Bool.{cases_lt}
use Rattle.question.proofs.TooLong.{too_long as question_too_long}
use Rattle.input.specs.Parting.{Parted}
use Rattle.input.proofs.Fronts.{front_settles, front_settles_pages}
use Rattle.partfind.specs.declared.declined.Declined.{Declined}
use Rattle.partfind.specs.declared.declined.Declined.TheVariants.{Text, Verdict, File}
use Rattle.partfind.specs.Asking.{Held, Answer, Settles}

-- texts that are too long have one answer
too_long : (text t file f : List ℕ) (before : Held) (r : Result ℕ Declined) (after : Held) → 2048 < length text → 2048 < length t → Answer t f before r after → Answer text file before r after
too_long text t file f before (Ok n) after h k a = absurd (omega (arith, a.0.lawful.short))
too_long text t file f before (Err (Text e)) after h k a = (question_too_long text t before.draft (Err e) after.draft h k a.0, a.1)
too_long text t file f before (Err (Verdict e)) after h k a = absurd (omega (arith, a.0.lawful.short))
too_long text t file f before (Err (File e)) after h k a = absurd (omega (arith, a.0.lawful.short))

-- files that are too long have one answer
too_large : (text file f : List ℕ) (before : Held) (r : Result ℕ Declined) (after : Held) → 65536 < length file → 65536 < length f → Answer text f before r after → Answer text file before r after
too_large text file f before (Ok n) after h k a = absurd (omega (arith, a.2))
too_large text file f before (Err (Text e)) after h k a = a
too_large text file f before (Err (Verdict e)) after h k a = a
too_large text file f before (Err (File e)) after h k a = (a.0, a.1, h)

pub settled : (front question pages : List ℕ) (before : Held) (r : Result ℕ Declined) (after : Held) → Parted front question pages → Answer question pages before r after → Settles front before r after
settled front question pages before r after parted a input q p e whole =
    same_question (front_settles 67585 input q p question pages whole parted_front)
  where
    parted_front : Parted (take 67588 input) question pages
    parted_front = subst (λ ys. Parted ys question pages) (sym e) parted

    same_pages : q ≡ question → (2048 < length q) ⊎ (length q ≤ 2048) → Answer q p before r after
    same_pages d (inl long) = too_long q question p pages before r after long (omega (arith, long, ap length d)) a
    same_pages d (inr short) =
        elim (front_settles_pages 2048 65536 input q p pages short whole (subst (λ t. Parted (take 67588 input) t pages) (sym d) parted_front)) [
          | inl f ↦ subst (λ t. Answer t p before r after) (sym d) (subst (λ x. Answer question x before r after) (sym f) a)
          | inr g ↦ too_large q p pages before r after g.0 g.1 (subst (λ t. Answer t pages before r after) (sym d) a)
        ]

    same_question : (q ≡ question) ⊎ ((67585 < length q) × (67585 < length question)) → Answer q p before r after
    same_question (inl d) = same_pages d (cases_lt 2048 (length q))
    same_question (inr (h, k)) = too_long q question p pages before r after (omega (arith, h)) (omega (arith, k)) a
