use Rattle.std.proofs.Common.{refl, arith, length, ap, ◌∙◌, ◌<◌}
use Rattle.std.proofs.lemmas.List.{length_push}
use Rattle.room.specs.Items.{items}
use Rattle.question.specs.Behind.{path_from, path_terms}
use Rattle.question.proofs.Fitting.{pushed}
use Rattle.question.proofs.reader.Reader.add_path.Goals as goal

pub invariant_of-self-4 : goal.invariant_of-self-4
invariant_of-self-4 c =
    let r = c.args.self.now in
    let b = r.built in
    let free = c.if-self.false in
    let room : length (items b.paths) < 64 = omega (arith, b.counted, c.if-cost-self.false, c.requires.some) in
    let more = c.push.ensures.taken room in
    let long = ap length more ∙ length_push (items b.paths) c.args.node in
    ((omega (arith, c.if-cost-self.false, b.few), (omega (arith, b.counted, long, c.requires.some), (b.distinct, (pushed path_from (λ i. i) (items b.paths) _ c.args.node _ more b.paths_from (omega (arith, c.requires.fits.from free)) refl, (pushed path_terms (λ i. length (items b.terms)) (items b.paths) _ c.args.node _ more b.paths_terms (c.requires.fits.terms free) refl, (b.patterns_from, ((λ i. omega (arith, b.patterns_paths i, long)), (b.patterns_terms, (b.patterns_names, tt))))))))), (r.within, (r.last, (r.long, (r.few, tt)))))
