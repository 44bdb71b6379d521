use Rattle.std.proofs.Common.{Bool, sym, subst, arith}
use Rattle.room.specs.Items.{items}
use Rattle.lexicon.specs.Held.{held}
use Rattle.store.specs.Looking.{Gathering}
use Rattle.store.proofs.Fetching.{found_so, fetched_found, fetched_long, fetched_back}
use Rattle.store.proofs.documents.Documents.fetch.Goals as goal

pub returns-then-count-free : goal.returns-then-count-free
returns-then-count-free g c =
    let f = found_so _ _ c.in-Ok-Some.count c.in-Ok-Some.field-0-is c.in-Ok-Some.ensures in
    let d = c.args.self.now in
    fetched_long g.W.Cause.Cause.mark _ f.0 c.in-Ok-Some.count (held d.terms) (items d.triples) f.1 f.2 (omega (arith, c.if-count-free.true, c.free.ensures))

pub returns-then-is_some : goal.returns-then-is_some
returns-then-is_some g c =
    let f = found_so _ _ c.in-Ok-Some.count c.in-Ok-Some.field-0-is c.in-Ok-Some.ensures in
    let d = c.args.self.now in
    let all = subst (λ (b : Bool). Gathering (held d.terms) (items d.triples) f.0 b (held c.gather.new.self.terms) (items c.gather.new.self.triples)) (sym c.if-is_some.ensures) (c.gather.ensures f.0 f.1 f.2) in
    fetched_found g.W.Cause.Cause.mark _ f.0 c.in-Ok-Some.count (held d.terms) _ (items d.triples) _ f.1 f.2 (omega (arith, c.if-count-free.false, c.free.ensures)) all

pub returns-else-is_some : goal.returns-else-is_some
returns-else-is_some g c =
    let f = found_so _ _ c.in-Ok-Some.count c.in-Ok-Some.field-0-is c.in-Ok-Some.ensures in
    let d = c.args.self.now in
    let some = subst (λ (b : Bool). Gathering (held d.terms) (items d.triples) f.0 b (held c.gather.new.self.terms) (items c.gather.new.self.triples)) (sym c.if-is_some.ensures) (c.gather.ensures f.0 f.1 f.2) in
    fetched_back g.W.Cause.Cause.mark _ f.0 (held d.terms) _ _ (items d.triples) _ _ c.count-known.result c.len-first.result f.1 some c.count-known.ensures c.cut.ensures c.len-first.ensures c.truncate.ensures
