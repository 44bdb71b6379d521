use Rattle.judging.proofs.Counting.{ones_count}
use Rattle.judging.proofs.masks.count.Goals as goal

pub returns : goal.returns
returns c = ones_count 8 c.args.mask c.ranges.mask.fits
