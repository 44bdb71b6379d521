use Rattle.samples.proofs.Pages.{file_is_a_web, file_is_written}
use Rattle.samples.proofs.Reading.{texts_ask_them}
use Rattle.samples.proofs.shown.pages_show_it.Goals as goal

pub returns-clause-texts : goal.returns-clause-texts
returns-clause-texts c = texts_ask_them

pub returns-clause-web : goal.returns-clause-web
returns-clause-web c = file_is_a_web

pub returns-clause-file : goal.returns-clause-file
returns-clause-file c = file_is_written
