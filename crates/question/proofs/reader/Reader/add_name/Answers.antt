use Rattle.std.proofs.Common.{map, length, refl, ap, ◌∙◌, arith}
use Rattle.std.proofs.lemmas.List.{map_push, length_push}
use Rattle.room.specs.Items.{items}
use Rattle.grammar.specs.Numbered.{distinct}
use Rattle.question.specs.Arena.{name_of}
use Rattle.question.specs.Views.{text_of, seen_of}
use Rattle.question.proofs.Admitting.{ninth, name_long, name_new, still_distinct}
use Rattle.question.proofs.reader.Reader.add_name.Goals as goal

pub returns-then-number-ge8 : goal.returns-then-number-ge8
returns-then-number-ge8 c = ninth _ c.requires (omega (arith, c.if-number-ge8.true, c.len-number.ensures))

pub returns-then-of-gt16 : goal.returns-then-of-gt16
returns-then-of-gt16 c = name_long _ c.requires (omega (arith, c.if-number-ge8.false, c.len-number.ensures)) (omega (arith, ap length (c.of.ensures ∙ ap (λ t. name_of t c.args.span) c.as_slice.ensures), c.if-of-gt16.true))

pub returns : goal.returns
returns c =
    name_new (record { next = refl; full = refl; text = refl; paths = refl; patterns = refl; nodes = refl }) refl refl
    c.args.span c.len-number.result (c.push.ensures.taken (omega (arith, c.if-number-ge8.false, c.len-number.ensures))) c.len-number.ensures (omega (arith, c.if-number-ge8.false)) (omega (arith, ap length (c.of.ensures ∙ ap (λ t. name_of t c.args.span) c.as_slice.ensures), c.if-of-gt16.false)) c.requires

pub invariant_of-self : goal.invariant_of-self
invariant_of-self c =
    let r = c.args.self.now in
    let b = r.built in
    let more = c.push.ensures.taken (omega (arith, c.if-number-ge8.false, c.len-number.ensures)) in
    let long = ap length more ∙ length_push (items b.names) c.args.span in
    let apart = ap distinct (ap (map (name_of (text_of r))) more ∙ map_push (name_of (text_of r)) (items b.names) c.args.span) ∙ still_distinct (name_of (text_of r) c.args.span) (seen_of r) b.distinct c.requires in
    ((b.few, (b.counted, (apart, (b.paths_from, (b.paths_terms, (b.patterns_from, (b.patterns_paths, (b.patterns_terms, ((λ i. omega (arith, b.patterns_names i, long)), tt))))))))), (r.within, (r.last, (r.long, (r.few, tt)))))
