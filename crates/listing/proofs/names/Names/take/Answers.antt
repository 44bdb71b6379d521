use Rattle.std.proofs.Common.{[], ◌∷◌, length, ap, ◌∙◌, arith, length-append}
use Rattle.std.proofs.lemmas.List.{length-map}
use Rattle.room.specs.Items.{items}
use Rattle.question.specs.Asking.{asked}
use Rattle.listing.specs.Named.{bytes_of, named}
use Rattle.listing.proofs.Taking.{few_names, name_more}
use Rattle.listing.proofs.names.Names.take.Goals as goal
use Rattle.listing.proofs.names.Names.take.Goals.{in-Some, in_default}

pub loop-number-preserved : goal.loop-number-preserved
loop-number-preserved c =
    let q = c.args.question.now in
    let held = items c.loop-number.self.names in
    let i = c.loop-number.invariant in
    elim c.match-name.branch [
      | in-Some w ↦
          let taken = w.push.ensures.taken (omega (arith, c.loop-number-test.true, c.variables-number-end.ensures, few_names q, i.1, length-map held bytes_of)) in
          let e = ap named w.self-is in (
            e ∙ name_more (asked q).names c.loop-number.number w.in-Some.name.now w.of.result held (items w.push.new.self) w.in-Some.ensures w.of.ensures i.0 taken,
            omega (arith, ap length e, length-map (items w.push.new.self) bytes_of, ap length taken, length-append held (w.of.result ∷ []), length-map held bytes_of, i.1),
          )
      | in_default w ↦ absurd (omega (arith, c.variables-number-end.ensures, c.loop-number-test.true, w.in_default.ensures))
    ]
