use Rattle.std.proofs.Common.{ℕ, ◌+◌, ◌-◌, List, length, set, ap, ◌∙◌, ap₂, arith}
use borrow.Rule.Slice.PartMut.{put_mid}
use Rattle.terms.specs.Marks.{opening, closing}
use Rattle.lexicon.proofs.Marking.{written}
use Rattle.lexicon.proofs.spell.write.Goals as goal

pub returns : goal.returns
returns c =
    let out = c.args.out.now in
    let x = c.args.bytes.now in
    let n = length x + 1 in
    ap₂ (λ (y : List ℕ) (e : ℕ). set (put_mid 1 (n - 1) (set out 0 c.opening.result) y) n e) c.copy_from_slice.ensures.after c.closing.ensures
    ∙ ap (λ (b : ℕ). set (put_mid 1 (n - 1) (set out 0 b) x) n (closing c.args.kind)) c.opening.ensures
    ∙ written out x (opening c.args.kind) (closing c.args.kind) (omega (arith, c.requires))
