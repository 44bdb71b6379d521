use Rattle.std.proofs.Common.{◌+◌, length, sym, ap, ◌∙◌, arith}
use Rattle.lexicon.specs.Numbering.{term, tell}
use Rattle.lexicon.proofs.Marking.{spell_fits, spell_short}
use Rattle.lexicon.proofs.lexicon.Lexicon.spell.Goals as goal

pub returns-then-out-size : goal.returns-then-out-size
returns-then-out-size c =
    let is = ap (tell _) (sym c.in_ok-kind.ensures.ok_part) ∙ c.term.ensures in
    let r = spell_short _ (term c.in_ok-kind.kind c.in_ok-kind.bytes.now) c.args.out.now is (omega arith) in
    record { answer = r.0; buffer = r.1 }

pub returns : goal.returns
returns c =
    let x = c.in_ok-kind.bytes.now in
    let is = ap (tell _) (sym c.in_ok-kind.ensures.ok_part) ∙ c.term.ensures in
    let r = spell_fits _ (term c.in_ok-kind.kind x) c.args.out.now (length x + 2) is (omega arith) (omega arith) in
    record { answer = r.0; buffer = c.write.ensures ∙ r.1 }
