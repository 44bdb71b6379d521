use Rattle.std.proofs.Common.{◌+◌, ◌*◌}
use Rattle.outline.proofs.patterns.+pattern_text.Given as goal

abbrev pub decreases-put_both : goal.decreases-put_both
decreases-put_both l = 2 * l.limit + 1

abbrev pub decreases-put_pattern : goal.decreases-put_pattern
decreases-put_pattern l = 2 * l.limit
