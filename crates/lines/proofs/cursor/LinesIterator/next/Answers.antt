use Rattle.std.proofs.Common.{refl, arith, true-eqb, false-eqb}
use Rattle.std.proofs.lemmas.List.{nil_from_length}
use Rattle.lines.proofs.Cutting.{line_taken}
use Rattle.lines.proofs.cursor.LinesIterator.next.Goals as goal

pub returns-then-is_empty-clause-steps : goal.returns-then-is_empty-clause-steps
returns-then-is_empty-clause-steps c = (nil_from_length c.args.self.now.rest.now (true-eqb _ _ c.if-is_empty.ensures), refl)

pub returns-clause-steps : goal.returns-clause-steps
returns-clause-steps c =
    let some = false-eqb _ _ c.if-is_empty.ensures in
    line_taken c.args.self.now.passed c.args.self.now.rest.now c.run_before-length.result c.min.result (omega arith) c.run_before-length.ensures c.min.ensures
