use Rattle.std.proofs.Common.{sym, ap}
use Rattle.room.specs.Items.{items}
use Rattle.grammar.specs.Syntax.{empty}
use Rattle.question.specs.Arena.{pattern_of}
use Rattle.outline.specs.Outlined.{pattern_text}
use Rattle.question.specs.Parts.{env_of}
use Rattle.outline.proofs.Adding.{adds_as}
use Rattle.question.proofs.Standing.{past_limit, past_all}
use Rattle.outline.proofs.Standing.{pattern_here}
use Rattle.outline.proofs.patterns.+pattern_text.Goals as goal

pub put_pattern-returns-then-index-limit : goal.put_pattern-returns-then-index-limit
put_pattern-returns-then-index-limit t c =
    let q = c.args.q.now in
    adds_as (ap pattern_text (sym (past_limit (pattern_of (env_of q)) (items q.patterns) c.args.limit c.args.index empty c.if-index-limit.true))) c.put.ensures

pub put_pattern-returns-in_default : goal.put_pattern-returns-in_default
put_pattern-returns-in_default t c =
    let q = c.args.q.now in
    adds_as (ap pattern_text (sym (past_all (pattern_of (env_of q)) (items q.patterns) c.args.limit c.args.index empty c.in_default.ensures))) c.put-in_default.ensures

pub put_pattern-returns-in-Empty : goal.put_pattern-returns-in-Empty
put_pattern-returns-in-Empty t c = adds_as (pattern_here c.args.q.now c.args.limit c.args.index _ _ c.if-index-limit.false c.in-Some.ensures c.in-Empty.is) c.put-in-Empty.ensures

pub put_pattern-returns-in-Line : goal.put_pattern-returns-in-Line
put_pattern-returns-in-Line t c = adds_as (pattern_here c.args.q.now c.args.limit c.args.index _ _ c.if-index-limit.false c.in-Some.ensures c.in-Line.is) c.put_line.ensures

pub put_pattern-returns-in-And : goal.put_pattern-returns-in-And
put_pattern-returns-in-And t c = adds_as (pattern_here c.args.q.now c.args.limit c.args.index _ _ c.if-index-limit.false c.in-Some.ensures c.in-And.is) c.put_both.ensures

pub put_pattern-returns-in-Union : goal.put_pattern-returns-in-Union
put_pattern-returns-in-Union t c = adds_as (pattern_here c.args.q.now c.args.limit c.args.index _ _ c.if-index-limit.false c.in-Some.ensures c.in-Union.is) c.put_both-in-Union.ensures

pub put_pattern-returns-in-Opt : goal.put_pattern-returns-in-Opt
put_pattern-returns-in-Opt t c = adds_as (pattern_here c.args.q.now c.args.limit c.args.index _ _ c.if-index-limit.false c.in-Some.ensures c.in-Opt.is) c.put_both-in-Opt.ensures
