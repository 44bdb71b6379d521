use Rattle.samples.proofs.Ordered.{not_what_is_at_hand}
use Rattle.samples.proofs.Pages.{plans_are_a_web, plans_are_written}
use Rattle.samples.proofs.plans.plans_are_static.Goals as goal

pub returns-clause-apart : goal.returns-clause-apart
returns-clause-apart c = not_what_is_at_hand

pub returns-clause-web : goal.returns-clause-web
returns-clause-web c = plans_are_a_web

pub returns-clause-file : goal.returns-clause-file
returns-clause-file c = plans_are_written
