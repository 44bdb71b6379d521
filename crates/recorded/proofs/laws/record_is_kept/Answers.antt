use Rattle.recorded.proofs.Kept.{fresh_kept, entering_keeps, noting_keeps, looking_keeps, other_web}
use Rattle.recorded.proofs.laws.record_is_kept.Goals as goal

pub returns : goal.returns
returns c = record { fresh = fresh_kept; entering = entering_keeps; noting = noting_keeps; looking = looking_keeps; addresses = other_web }
