use Rattle.samples.proofs.Pages.{weighed_is_a_web, weighed_is_written}
use Rattle.samples.proofs.Reading.{texts_ask_for_weights}
use Rattle.samples.proofs.weighed.weights_show_it.Goals as goal

pub returns-clause-texts : goal.returns-clause-texts
returns-clause-texts c = texts_ask_for_weights

pub returns-clause-web : goal.returns-clause-web
returns-clause-web c = weighed_is_a_web

pub returns-clause-file : goal.returns-clause-file
returns-clause-file c = weighed_is_written
