use Rattle.store.proofs.Fetching.{copied}
use Rattle.store.proofs.look.copied.Goals as goal

pub returns : goal.returns
returns c =
    let e = c.try_extend_from_slice in
    copied c.args.bytes.now c.min.result c.new-copy.result.items e.new.self.items e.result c.min.ensures c.new-copy.ensures e.ensures.variant.1 e.ensures.ok
