use Rattle.std.proofs.Common.{List, length, ap, arith}
use Rattle.lexicon.specs.declared.part.Part.{Part}
use Rattle.lexicon.specs.Parts.{part_at}
use Rattle.lexicon.proofs.Holding.{part_ends, bytes_read}
use Rattle.lexicon.proofs.lexicon.Lexicon.bytes_at.Goals as goal

pub overflow_add-end : goal.overflow_add-end
overflow_add-end c =
    let l = c.args.self.now in
    let p = ap (λ (ps : List Part). part_at ps c.args.place) c.as_slice.ensures in
    omega (arith, part_ends l c.args.place _ c.requires p, l.text.few)

pub slice_bounds-result-end : goal.slice_bounds-result-end
slice_bounds-result-end c =
    let l = c.args.self.now in
    let p = ap (λ (ps : List Part). part_at ps c.args.place) c.as_slice.ensures in
    omega (arith, part_ends l c.args.place _ c.requires p, ap length c.as_slice-2.ensures)

pub returns : goal.returns
returns c =
    let p = ap (λ (ps : List Part). part_at ps c.args.place) c.as_slice.ensures in
    bytes_read c.args.self.now c.args.place _ _ c.requires p c.as_slice-2.ensures
