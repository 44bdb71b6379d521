use Rattle.std.proofs.Common.{◌≡◌, sym, subst}
use Rattle.grammar.specs.Syntax.{nodes}
use Rattle.grammar.specs.Reading.{Question}
use Rattle.question.specs.Asking.{asked}
use Rattle.question.proofs.draft.Draft.read.Goals as goal

pub invariant_of-self : goal.invariant_of-self
invariant_of-self c = record { nodes = subst (λ q. q.nodes ≡ nodes (asked q).pattern) (sym c.give.ensures) c.in-Ok.ensures.nodes }

pub returns-in-Ok : goal.returns-in-Ok
returns-in-Ok c = subst (λ q. Question c.args.text.now (asked q)) (sym c.give.ensures) c.in-Ok.ensures.verdict
