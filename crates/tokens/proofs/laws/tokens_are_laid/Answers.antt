use Rattle.tokens.proofs.Lays.{every_text_is_laid, laid_once}
use Rattle.tokens.proofs.laws.tokens_are_laid.Goals as goal

pub returns : goal.returns
returns c = record { laid = every_text_is_laid; once = laid_once }
