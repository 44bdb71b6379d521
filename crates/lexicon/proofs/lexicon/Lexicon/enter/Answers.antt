use Rattle.std.proofs.Common.{◌≡◌, suc, false, [], ◌∷◌, length, Some, ap, ◌∙◌, arith, length-append}
use Rattle.lexicon.specs.Numbering.{term, enter, within}
use Rattle.lexicon.specs.Held.{held}
use Rattle.lexicon.proofs.Numbers.{admit_there, admit_not, admit_new, told_is, told_none}
use Rattle.lexicon.proofs.Holding.{held_count, held_within, full_terms, full_text, fits_behind}
use Rattle.lexicon.proofs.lexicon.Lexicon.enter.Goals as goal
use Rattle.lexicon.proofs.lexicon.Lexicon.enter.Goals.{then-is_full-via-then-is_full, then-is_full-via-else-is_full+then-free-bytes}

pub returns-in-Some : goal.returns-in-Some
returns-in-Some c =
    let l = c.args.self.now in
    let n = told_is _ _ c.in-Some.ensures in
    let r = admit_there (held l) (term c.args.kind c.args.bytes.now) _ (held_within l) n.0 n.1 in
    record { answer = r.0; after = r.1 }

pub returns-then-is_full : goal.returns-then-is_full
returns-then-is_full c =
    let l = c.args.self.now in
    let t = term c.args.kind c.args.bytes.now in
    let z = told_none _ c.in_default.ensures in
    let full : within (enter (held l) t) ≡ false =
    elim c.then-is_full.branch [
      | then-is_full-via-then-is_full w ↦ full_terms l t z (omega (arith, w.if-is_full.ensures))
      | then-is_full-via-else-is_full+then-free-bytes w ↦ full_text l t z (omega (arith, w.free.ensures, w.if-free-bytes.true))
    ] in
    let r = admit_not (held l) t full in
    record { answer = r.0; after = r.1 }

pub append-requires : goal.append-requires
append-requires c = record { count = c.if-is_full.ensures; text = omega (arith, c.free.ensures, c.if-free-bytes.false) }

pub overflow_cast-result : goal.overflow_cast-result
overflow_cast-result c =
    let l = c.append.new.self in
    omega (arith, c.count.ensures, held_count l, l.kinds.few)

pub returns : goal.returns
returns c =
    let l = c.args.self.now in
    let t = term c.args.kind c.args.bytes.now in
    let r = admit_new (held l) t (told_none _ c.in_default.ensures) (fits_behind l t c.if-is_full.ensures (omega (arith, c.free.ensures, c.if-free-bytes.false))) in
    let n : c.count.result ≡ suc (length (held l)) = omega (arith, c.count.ensures, ap length c.append.ensures, length-append (held l) (t ∷ [])) in
    record { answer = ap Some n ∙ r.0; after = c.append.ensures ∙ r.1 }
