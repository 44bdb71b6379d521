use Rattle.samples.proofs.Walks.{just_these_pages, just_these_documents, their_texts, all_four_are_needed, far_end_is_not_handed_in}
use Rattle.samples.proofs.walked.walks_show_it.Goals as goal

pub returns-clause-pages : goal.returns-clause-pages
returns-clause-pages c = just_these_pages

pub returns-clause-documents : goal.returns-clause-documents
returns-clause-documents c = just_these_documents

pub returns-clause-texts : goal.returns-clause-texts
returns-clause-texts c = their_texts

pub returns-clause-four : goal.returns-clause-four
returns-clause-four c = all_four_are_needed

pub returns-clause-closure : goal.returns-clause-closure
returns-clause-closure c = far_end_is_not_handed_in
