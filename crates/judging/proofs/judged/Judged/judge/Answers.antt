use Rattle.std.proofs.Common.{◌≡◌, ℕ, true, false, sym, refl, ap, ◌∙◌, subst, arith}
use Rattle.std.proofs.lemmas.Result.{err_from_is_err_and}
use Rattle.grammar.specs.Judged.{judged, sure_mask}
use Rattle.grammar.specs.Numbered.{asks}
use Rattle.question.specs.declared.question.Question.{Question}
use Rattle.question.specs.Answers.{held}
use Rattle.question.specs.Asking.{asked}
use Rattle.judging.specs.Masked.{asks_at, Judges}
use Rattle.judging.proofs.Counting.{sure_count_lem, judged_bounded, bounded_judged}
use Rattle.judging.proofs.judged.Judged.judge.Goals as goal

-- the whole pattern of the draft's question
whole : (p q : Question) (i : ℕ) → p ≡ q → i ≡ p.root → asks (asked q) ≡ asks_at p i
whole p q i e f = ap (λ x. asks (asked x)) (sym e) ∙ ap (asks_at p) (sym f)

clash : false ≡ true → ⊥
clash e = let z : ◌≡◌ {A = ℕ} 0 1 = cc in omega arith

pub returns : goal.returns
returns c =
    let p = asks (held c.args.draft.now) in
    let q = c.question-q.result.now in
    let same = whole q c.args.draft.now.question c.root.result c.question-q.ensures c.root.ensures in
    let told = subst (Judges (asks_at q c.root.result) 0) c.in_ok-sure.ensures.ok_part c.judge.ensures in (
      judged_bounded p (ap (λ x. judged x 0) same ∙ told.0),
      sure_count_lem p c.in_ok-sure.sure c.count.result (told.1 ∙ ap sure_mask (sym same)) c.count.ensures,
      c.copy.ensures.asked ∙ ap asked c.question-q.ensures,
    )

pub returns-in_err-sure : goal.returns-in_err-sure
returns-in_err-sure c =
    let r = err_from_is_err_and c.from_residual.result c.from_residual.ensures.1 in
    let p = asks (held c.args.draft.now) in
    let q = c.question-q.result.now in
    let same = whole q c.args.draft.now.question c.root.result c.question-q.ensures c.root.ensures in
    let told = subst (Judges (asks_at q c.root.result) 0) c.in_err-sure.ensures.ok_part c.judge.ensures in
    rw r.1 ((λ b. clash (sym (ap (λ x. judged x 0) same ∙ told) ∙ bounded_judged p b)), refl)
