use Rattle.std.proofs.Common.{decimal, ap}
use Rattle.question.specs.declared.question.Question.{Question}
use Rattle.question.specs.Asking.{asked}
use Rattle.outline.specs.Outlined.{names_text, pattern_text}
use Rattle.outline.proofs.Adding.{then, adds_as}
use Rattle.outline.proofs.Standing.{pattern_whole}
use Rattle.outline.proofs.lines.write_question.Goals as goal

pub returns : goal.returns
returns c =
    let n = adds_as (ap decimal c.nodes.ensures) c.in_ok-put_number.ensures in
    let p = adds_as (pattern_whole c.question-q.result.now c.nodes-2.result c.root.result c.nodes-2.ensures c.root.ensures) c.put_pattern.ensures in
    let names = adds_as (ap (λ (q : Question). names_text (asked q).names) c.question-q.ensures) c.in_ok-put_names.ensures in
    let tree = adds_as (ap (λ (q : Question). pattern_text (asked q).pattern) c.question-q.ensures) p in
    then c.in_ok-put.ensures (then n (then c.in_ok-put-2.ensures (then names (then c.in_ok-put-3.ensures tree))))
