use Rattle.recorded.proofs.Arenas.{questions_are_numbered, terms_are_asked, entered_terms_are_known, lookups_keep_numbers}
use Rattle.recorded.proofs.laws.questions_are_numbered.Goals as goal

pub returns : goal.returns
returns c = record { numbers = questions_are_numbered; terms = terms_are_asked; entered = entered_terms_are_known; later = lookups_keep_numbers }
