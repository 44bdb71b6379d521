use Rattle.std.proofs.Common.{◌≡◌, ◌+◌, List, length, take}
use Rattle.room.specs.Items.{items}
use Rattle.lexicon.specs.Held.{held}
use Rattle.web.specs.Meaning.{Triple, found}
use Rattle.store.specs.Gathered.{Gathered}
use Rattle.store.proofs.documents.Documents.gather.Given as goal

abbrev pub invariant-loop-place : goal.invariant-loop-place
invariant-loop-place g l =
    ((xs : List Triple) → g.W.Web.meaning l.document.web.now l.document.iri.now ≡ found xs → l.count ≡ length xs → Gathered (held l.initial.self.terms) (items l.initial.self.triples) (take l.place xs) (held l.self.terms) (items l.self.triples))
    × (length (items l.self.triples) ≡ length (items l.initial.self.triples) + l.place)
