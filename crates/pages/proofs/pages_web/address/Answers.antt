use Rattle.std.proofs.Common.{take, ap, ◌∙◌}
use Rattle.terms.proofs.Runs.{run_take}
use Rattle.lines.specs.Runs.{differs}
use Rattle.pages.proofs.pages_web.address.Goals as goal

pub returns : goal.returns
returns c = let bs = c.args.iri.now in ap (λ n. take n bs) c.run_before.ensures ∙ run_take (differs 35) bs
