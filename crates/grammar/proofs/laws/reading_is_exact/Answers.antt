use Rattle.grammar.proofs.Unique.{one_tree}
use Rattle.grammar.proofs.Verdicts.{one_question, one_refusal, not_both}
use Rattle.grammar.proofs.Decided.{every_text}
use Rattle.grammar.proofs.laws.reading_is_exact.Goals as goal

pub returns : goal.returns
returns c = record { tree = one_tree; question = one_question; refusal = one_refusal; apart = not_both; every = every_text }
