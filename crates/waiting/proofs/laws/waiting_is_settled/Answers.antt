use Rattle.waiting.proofs.Ordered.{one_comes_first, first_is_handed_on, only_one_row_ties, once_is_strict}
use Rattle.waiting.proofs.Entering.{some_order}
use Rattle.waiting.proofs.Settled.{one_order, same_answers_wait_alike}
use Rattle.waiting.proofs.laws.waiting_is_settled.Goals as goal

pub returns : goal.returns
returns c = record { total = one_comes_first; handed = first_is_handed_on; ties = only_one_row_ties; strict = once_is_strict; some = some_order; one = one_order; alike = same_answers_wait_alike }
