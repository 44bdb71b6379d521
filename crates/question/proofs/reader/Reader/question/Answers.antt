use Rattle.std.proofs.Common.{rules}
use Rattle.std.proofs.lemmas.Result.{err_from_is_err_and}
use Rattle.grammar.proofs.Moves.{differ}
use Rattle.question.proofs.Taking.{alike, unlike, said_end}
use Rattle.question.proofs.Verdicts.{group_faulty, end_faulty, too_large, a_question, counted_all}
use Rattle.tokens.specs.declared.token.Token.TheVariants.{End}
use Rattle.question.proofs.reader.Reader.question.Goals as goal

pub returns-in_err-root : goal.returns-in_err-root
returns-in_err-root c =
    let p = err_from_is_err_and c.from_residual.result c.from_residual.ensures.1 in
    rw (p.1, p.2) (record { verdict = (c.requires, group_faulty c.args.text.now c.start.ensures.spots c.start.ensures.seen c.in_err-root.ensures.is); nodes = tt })

pub returns-then-ne : goal.returns-then-ne
returns-then-ne c =
    record {
      verdict = (
        c.requires,
        end_faulty c.args.text.now c.start.ensures.spots c.start.ensures.seen c.in_ok-root.ensures.is
            (unlike c.group.new.self End (differ c.group.new.self.next.token End (λ e. search rules))),
      );
      nodes = tt;
    }

pub returns-then-self : goal.returns-then-self
returns-then-self c =
    record {
      verdict = too_large c.args.text.now c.start.ensures.spots c.start.ensures.seen c.in_ok-root.ensures.is
          (said_end c.group.new.self (alike c.group.new.self.next.token End (search rules))) c.requires c.start.ensures.count c.start.ensures.full c.if-self.true;
      nodes = tt;
    }

pub returns : goal.returns
returns c =
    let group = c.in_ok-root.ensures.is in
    let q = a_question c.args.text.now c.group.new.self c.in_ok-root.root c.start.ensures.spots c.start.ensures.seen group
    (said_end c.group.new.self (alike c.group.new.self.next.token End (search rules))) c.requires c.start.ensures.count c.if-self.false in
    record { verdict = q; nodes = counted_all c.group.new.self c.in_ok-root.root group c.start.ensures.count c.if-self.false }
