use Rattle.lines.proofs.Laying.{every_file, laid_once}
use Rattle.lines.proofs.Spelling.{as_spelled, only_says}
use Rattle.lines.proofs.laws.lines_are_spelled.Goals as goal

pub returns : goal.returns
returns c = record { laid = every_file; once = laid_once; spelled = as_spelled; only = only_says }
