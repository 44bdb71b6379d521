use Rattle.std.proofs.Common.{[], ◌∷◌, length, sym, ap, ◌∙◌, subst, arith, length-append}
use Rattle.room.specs.Items.{items}
use Rattle.lexicon.specs.declared.part.Part.{Part}
use Rattle.lexicon.specs.Parts.{sizes}
use Rattle.lexicon.proofs.Cutting.{Laid, laid_behind, sizes_behind}
use Rattle.lexicon.proofs.Holding.{held_behind}
use Rattle.lexicon.proofs.lexicon.Lexicon.append.Goals as goal

pub invariant_of-self : goal.invariant_of-self
invariant_of-self c =
    let l = c.args.self.now in
    let x = c.args.bytes.now in
    let p : Part = record { start = c.len.result; size = length x } in
    let e = c.push-2.ensures.taken (omega (arith, c.requires.count, l.paired)) in
    let t = ap length (c.extend_from_slice.ensures.taken c.requires.text) ∙ length-append (items l.text) x in
    let k = ap length (c.push.ensures.taken c.requires.count) ∙ length-append (items l.kinds) (c.args.kind ∷ []) in
    let n = ap length e ∙ length-append (items l.parts) (p ∷ []) in
    record {
      paired = omega (arith, n, k, l.paired);
      starts = subst Laid (sym e) (laid_behind (items l.parts) p l.starts (c.len.ensures ∙ sym l.whole));
      whole = omega (arith, ap sizes e, sizes_behind (items l.parts) p, l.whole, t);
    }

pub returns : goal.returns
returns c =
    let l = c.args.self.now in
    held_behind l _ _ _ c.args.kind c.args.bytes.now c.len.result c.len.ensures (c.extend_from_slice.ensures.taken c.requires.text) (c.push.ensures.taken c.requires.count) (c.push-2.ensures.taken (omega (arith, c.requires.count, l.paired)))
