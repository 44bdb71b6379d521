use Rattle.std.proofs.Common.{length, ap, arith}
use lib.ListN.{length-map}
use Rattle.lexicon.specs.Held.{held, kind_of}
use Rattle.lexicon.proofs.Holding.{held_few}
use Rattle.store.proofs.store.Store.shelf.Goals as goal

pub invariant_of-result : goal.invariant_of-result
invariant_of-result c =
    let terms = c.args.self.now.documents.terms in
    record { few = omega (arith, ap length c.kinds.ensures, length-map (held terms) kind_of, held_few terms) }
