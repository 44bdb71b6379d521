use Rattle.tokens.proofs.Cuts.{first_token, first_end}
use Rattle.tokens.proofs.lexer.next.Goals as goal

pub returns-then-start-text : goal.returns-then-start-text
returns-then-start-text c = first_token c.args.text.now c.args.at c.run_end-start.result c.token.result c.run_end-start.ensures c.if-start-text.true c.token.ensures

pub returns-else-start-text : goal.returns-else-start-text
returns-else-start-text c = first_end c.args.text.now c.args.at c.run_end-start.result c.run_end-start.ensures c.if-start-text.false
