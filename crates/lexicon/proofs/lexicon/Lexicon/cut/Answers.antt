use Rattle.std.proofs.Common.{List, length, get_or, sym, ap, ◌∙◌, subst, arith, length-take, take_all}
use Rattle.room.specs.Items.{items}
use Rattle.lexicon.specs.declared.part.Part.{Part}
use Rattle.lexicon.specs.Parts.{sizes}
use Rattle.lexicon.specs.Held.{held}
use Rattle.lexicon.proofs.Cutting.{Laid, laid_take, sizes_take}
use Rattle.lexicon.proofs.Holding.{held_count, held_cut, start_read}
use Rattle.lexicon.proofs.lexicon.Lexicon.cut.Goals as goal

pub invariant_of-self : goal.invariant_of-self
invariant_of-self c =
    let l = c.args.self.now in
    let n = c.args.count in
    let p = c.in-Some.part.now in
    let read = c.in-Some.ensures.lookup in
    let start = start_read l n p (omega (arith, read.3.0, ap length c.as_slice.ensures)) (read.1 ∙ ap (λ (ps : List Part). get_or ps n p) c.as_slice.ensures) in
    record {
      paired = omega (arith, ap length c.truncate-in-Some.ensures, ap length c.truncate-in-Some-2.ensures, length-take n (items l.kinds), length-take n (items l.parts), l.paired);
      starts = subst Laid (sym c.truncate-in-Some-2.ensures) (laid_take (items l.parts) n l.starts);
      whole = omega (arith, ap sizes c.truncate-in-Some-2.ensures, start, ap length c.truncate.ensures, length-take p.start (items l.text), sizes_take (items l.parts) n, l.whole);
    }

pub returns-in-Some : goal.returns-in-Some
returns-in-Some c =
    let l = c.args.self.now in
    let n = c.args.count in
    let p = c.in-Some.part.now in
    let read = c.in-Some.ensures.lookup in
    let start = start_read l n p (omega (arith, read.3.0, ap length c.as_slice.ensures)) (read.1 ∙ ap (λ (ps : List Part). get_or ps n p) c.as_slice.ensures) in
    held_cut l n p.start _ _ _ start c.truncate.ensures c.truncate-in-Some.ensures c.truncate-in-Some-2.ensures

pub returns-in_default : goal.returns-in_default
returns-in_default c =
    let l = c.args.self.now in
    sym (take_all c.args.count (held l) (omega (arith, held_count l, l.paired, ap length c.as_slice.ensures, c.in_default.ensures.lookup.3)))
