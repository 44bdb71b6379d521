use Rattle.std.proofs.Common.{ℕ, [], ◌∷◌, length, unwrap_or, Option, ap, ◌∙◌, arith, length-append}
use Rattle.question.specs.Asking.{asked}
use Rattle.question.specs.Answers.{term_told}
use Rattle.room.specs.Items.{items}
use Rattle.lexicon.specs.Held.{held}
use Rattle.lexicon.specs.Numbering.{number_of}
use Rattle.lexicon.proofs.Numbers.{told_or}
use Rattle.store.proofs.Asking.{few_terms, stands_told, numbers_next}
use Rattle.store.proofs.enter.number_all.Goals as goal
use Rattle.store.proofs.enter.number_all.Goals.{in-Some, in_default}

pub loop-place-preserved : goal.loop-place-preserved
loop-place-preserved c =
    let f = number_of (held c.args.terms.now) in
    let xs = (asked c.args.question.now).terms in
    let i = c.loop-place.invariant in
    elim c.match-term.branch [
      | in-Some w ↦
          let x = term_told w.in-Some.kind w.in-Some.bytes.now in
          let s = stands_told xs c.loop-place.place x w.in-Some.ensures in
          let n = w.unwrap_or.ensures ∙ ap (λ (o : Option ℕ). unwrap_or o 0) w.number.ensures ∙ told_or (f x) in
          let e = ap items w.numbers-is ∙ w.push.ensures.taken (omega (arith, s.within, few_terms c.args.question.now, i.1)) in
          (numbers_next f xs c.loop-place.place w.unwrap_or.result x _ _ s i.0 n e, omega (arith, i.1, ap length e, length-append (items c.loop-place.numbers) (w.unwrap_or.result ∷ [])))
      | in_default w ↦ absurd (omega (arith, c.terms-place-end.ensures, c.loop-place-test.true, w.in_default.ensures))
    ]
