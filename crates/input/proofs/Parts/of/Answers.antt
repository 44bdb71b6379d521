use Rattle.std.proofs.Common.{rules, tests, ◌≡◌, ℕ, List, [], length, take, Option, Some, None, unwrap_or, refl, sym, ap, subst, arith}
use Rattle.std.proofs.iter.runs.Sources.{range_runs}
use Rattle.std.specs.Iterator.Runs.{ItemsCountUp}
use Rattle.input.specs.declared.Parts.{Parts}
use Rattle.input.specs.Parting.{Line, Parted}
use Rattle.input.proofs.First.{FirstFound, first_found}
use Rattle.input.proofs.Lines.{parted_at, parted_whole}
use Rattle.input.proofs.Parts.of.Goals as goal

abbrev NoLine : List ℕ → ℕ → Type 0
NoLine xs k = (pages : List ℕ) → Line xs (take k xs) pages → ⊥

abbrev PartsAt : List ℕ → ℕ → Parts → Type 0
PartsAt xs k parts = (parts.question.now ≡ take k xs) × Line xs (take k xs) parts.pages.now

parted_first : (xs : List ℕ) (whole : Parts) (r : Option Parts) → whole.question.now ≡ xs → whole.pages.now ≡ [] → FirstFound (length xs) (NoLine xs) (PartsAt xs) r
    → Parted xs (unwrap_or r whole).question.now (unwrap_or r whole).pages.now
parted_first xs whole None q p h = subst (λ (b : List ℕ × List ℕ). Parted xs b.0 b.1) (λ i. (sym q i, sym p i)) (parted_whole xs (length xs) (omega arith) h)
parted_first xs whole (Some y) q p h = subst (λ b. Parted xs b y.pages.now) (sym h.2.0) (parted_at xs h.0 y.pages.now (omega (arith, h.1)) h.3 h.2.1)

pub returns : goal.returns
returns c =
    let xs = c.args.input.now in
    let ran = c.find_map.ensures.runs in
    let front : ran.0.from.start ≡ 0 = omega (arith, ap (λ s. s.start) ran.1) in
    let end : ran.0.from.end ≡ length xs = omega (arith, ap (λ s. s.end) ran.1) in
    let up = subst (λ (b : ℕ × ℕ). ItemsCountUp ran.0 b.0 b.1) (λ i. (front i, end i)) (range_runs ran.0 ran.0.seen) in
    let found = first_found _ _ (length xs) (NoLine xs) (PartsAt xs) (λ k h. search (rules, tests)) (λ k y h. search (rules, tests)) ran.0 c.find_map.result up (λ a r q h. search (rules, tests)) ran.2 in
    subst (λ parts. Parted xs parts.question.now parts.pages.now) (sym c.unwrap_or.ensures) (parted_first xs _ c.find_map.result refl refl found)
