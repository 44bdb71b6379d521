use Rattle.std.proofs.Common.{Some, refl, arith}
use Rattle.judging.specs.Masked.{asks_at}
use Rattle.judging.proofs.Placed.{judges_as, pattern_above, ends_there, nothing_judged, second_fails}
use Rattle.judging.proofs.patterns.+pattern_verdict.Goals as goal

pub judge-returns-in_default : goal.judge-returns-in_default
judge-returns-in_default t c = nothing_judged c.args.q.now c.args.index c.args.fixed c.in_default.ensures

pub judge-judge_line-requires : goal.judge-judge_line-requires
judge-judge_line-requires t c =
    let there = ends_there c.args.q.now c.args.index _ _ c.in-Some.ensures c.in-Line.is in
    record { subject = omega (arith, there); object = omega (arith, there) }

pub judge-judge_and-requires : goal.judge-judge_and-requires
judge-judge_and-requires t c = (omega (arith, c.decreases, pattern_above c.args.q.now c.args.index _ _ c.in-Some.ensures c.in-And.is), tt)

pub judge-judge_union-requires : goal.judge-judge_union-requires
judge-judge_union-requires t c = (omega (arith, c.decreases, pattern_above c.args.q.now c.args.index _ _ c.in-Some.ensures c.in-Union.is), tt)

pub judge-judge_opt-requires : goal.judge-judge_opt-requires
judge-judge_opt-requires t c = (omega (arith, c.decreases, pattern_above c.args.q.now c.args.index _ _ c.in-Some.ensures c.in-Opt.is), tt)

pub judge-returns-in-Empty : goal.judge-returns-in-Empty
judge-returns-in-Empty t c = judges_as c.args.q.now c.args.index _ _ c.in-Some.ensures c.in-Empty.is c.args.fixed (Some 0) (refl, refl)

pub judge-returns-in-Line : goal.judge-returns-in-Line
judge-returns-in-Line t c = judges_as c.args.q.now c.args.index _ _ c.in-Some.ensures c.in-Line.is c.args.fixed _ c.judge_line.ensures

pub judge-returns-in-And : goal.judge-returns-in-And
judge-returns-in-And t c = judges_as c.args.q.now c.args.index _ _ c.in-Some.ensures c.in-And.is c.args.fixed _ c.judge_and.ensures

pub judge-returns-in-Union : goal.judge-returns-in-Union
judge-returns-in-Union t c = judges_as c.args.q.now c.args.index _ _ c.in-Some.ensures c.in-Union.is c.args.fixed _ c.judge_union.ensures

pub judge-returns-in-Opt : goal.judge-returns-in-Opt
judge-returns-in-Opt t c = judges_as c.args.q.now c.args.index _ _ c.in-Some.ensures c.in-Opt.is c.args.fixed _ c.judge_opt.ensures

pub judge_and-returns-in_err-more-in-Some : goal.judge_and-returns-in_err-more-in-Some
judge_and-returns-in_err-more-in-Some t c = second_fails (asks_at c.args.q.now c.args.left) (asks_at c.args.q.now c.args.right) c.args.fixed c.in-Some.given _ c.in-Some.ensures c.in_err-more-in-Some.ensures c.from_residual.ensures
