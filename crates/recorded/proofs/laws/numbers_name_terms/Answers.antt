use Rattle.recorded.proofs.Naming.{numbers_count, documents_are_the_webs, contexts_are_the_webs, graphs_are_namesakes}
use Rattle.recorded.proofs.laws.numbers_name_terms.Goals as goal

pub returns : goal.returns
returns c = record { count = numbers_count; documents = documents_are_the_webs; contexts = contexts_are_the_webs; graphs = graphs_are_namesakes }
