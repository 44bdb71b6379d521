use Rattle.std.proofs.Common.{Bool, subst}
use Rattle.room.specs.Items.{items}
use Rattle.question.specs.Asking.{asked}
use Rattle.lexicon.specs.Held.{held}
use Rattle.store.specs.Entering.{Entering}
use Rattle.store.specs.View.{view}
use Rattle.store.proofs.Asking.{entered_all, numbered_all, entered_none}
use Rattle.store.proofs.store.Store.enter_terms.Goals as goal

pub returns-then-is_none : goal.returns-then-is_none
returns-then-is_none c =
    let s = c.args.self.now in
    let xs = (asked c.args.question.now).terms in
    let h = subst (λ (b : Bool). Entering (view s).terms xs b (held c.enter_all.new.terms)) c.if-is_none.ensures c.enter_all.ensures in
    let r = entered_none (view s) xs _ _ c.count-known.result (items s.numbers) h c.count-known.ensures c.cut.ensures in
    record { answer = r.0; after = r.1; numbers = r.2 }

pub returns : goal.returns
returns c =
    let s = c.args.self.now in
    let xs = (asked c.args.question.now).terms in
    let h = subst (λ (b : Bool). Entering (view s).terms xs b (held c.enter_all.new.terms)) c.if-is_none.ensures c.enter_all.ensures in
    let r = entered_all (view s) xs _ h in
    record { answer = r.0; after = r.1; numbers = numbered_all (view s) xs _ (items s.numbers) _ h c.number_all.ensures }
