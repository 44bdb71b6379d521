use Rattle.std.proofs.Common.{◌+◌, ◌*◌}
use Rattle.outline.proofs.paths.+path_text.Given as goal

abbrev pub decreases-put_one : goal.decreases-put_one
decreases-put_one l = 2 * l.limit + 1

abbrev pub decreases-put_path : goal.decreases-put_path
decreases-put_path l = 2 * l.limit

abbrev pub decreases-put_two : goal.decreases-put_two
decreases-put_two l = 2 * l.limit + 1
