use Rattle.std.proofs.Common.{ap, ◌∙◌}
use Rattle.shelf.proofs.Documents.{listed_of, listed_first}
use Rattle.shelf.proofs.read.listed_in.Goals as goal

pub returns-in-Some : goal.returns-in-Some
returns-in-Some c =
    let e = listed_first c.args.noted.now c.args.triples.now c.args.term in
    let f = ap (listed_of c.args.triples.now) c.in-Some.ensures in
    cc

pub returns-in-None : goal.returns-in-None
returns-in-None c = ap (listed_of c.args.triples.now) c.in-None.ensures ∙ listed_first c.args.noted.now c.args.triples.now c.args.term
