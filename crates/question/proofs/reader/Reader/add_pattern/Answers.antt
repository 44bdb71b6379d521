use Rattle.std.proofs.Common.{refl, arith, length, ap, ◌∙◌, ◌<◌}
use Rattle.std.proofs.lemmas.List.{length_push}
use Rattle.room.specs.Items.{items}
use Rattle.question.specs.Behind.{pattern_from, pattern_paths, pattern_terms, pattern_names}
use Rattle.question.proofs.Fitting.{pushed}
use Rattle.question.proofs.reader.Reader.add_pattern.Goals as goal

pub invariant_of-self-4 : goal.invariant_of-self-4
invariant_of-self-4 c =
    let r = c.args.self.now in
    let b = r.built in
    let free = c.if-self.false in
    let room : length (items b.patterns) < 64 = omega (arith, b.counted, c.if-self-ge64.false) in
    let more = c.push.ensures.taken room in
    let long = ap length more ∙ length_push (items b.patterns) c.args.node in
    ((omega (arith, c.if-self-ge64.false, b.few), (omega (arith, b.counted, long), (b.distinct, (b.paths_from, (b.paths_terms, (pushed pattern_from (λ i. i) (items b.patterns) _ c.args.node _ more b.patterns_from (omega (arith, c.requires.from free)) refl, (pushed pattern_paths (λ i. length (items b.paths)) (items b.patterns) _ c.args.node _ more b.patterns_paths (c.requires.paths free) refl, (pushed pattern_terms (λ i. length (items b.terms)) (items b.patterns) _ c.args.node _ more b.patterns_terms (c.requires.terms free) refl, (pushed pattern_names (λ i. length (items b.names)) (items b.patterns) _ c.args.node _ more b.patterns_names (c.requires.names free) refl, tt))))))))), (r.within, (r.last, (r.long, (r.few, tt)))))
