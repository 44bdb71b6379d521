use Rattle.samples.proofs.Pages.{feeders_are_a_web, feeders_are_written}
use Rattle.samples.proofs.Reading.{planners_ask_them}
use Rattle.samples.proofs.Orders.{two_orders_of_one_question, one_list_by_name}
use Rattle.samples.proofs.feeders.feeders_show_it.Goals as goal

pub returns-clause-texts : goal.returns-clause-texts
returns-clause-texts c = planners_ask_them

pub returns-clause-alike : goal.returns-clause-alike
returns-clause-alike c = two_orders_of_one_question

pub returns-clause-web : goal.returns-clause-web
returns-clause-web c = feeders_are_a_web

pub returns-clause-names : goal.returns-clause-names
returns-clause-names c = one_list_by_name

pub returns-clause-file : goal.returns-clause-file
returns-clause-file c = feeders_are_written
