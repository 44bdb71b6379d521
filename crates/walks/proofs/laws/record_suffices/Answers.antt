use Rattle.walks.proofs.Recorded.{record_suffices, record_decides}
use Rattle.walks.proofs.laws.record_suffices.Goals as goal

pub returns : goal.returns
returns g c = record { suffices = record_suffices; decides = record_decides }
