use Rattle.std.proofs.Common.{position, ap, ◌∙◌}
use Rattle.shelf.specs.declared.items.Noted.{Noted}
use Rattle.store.specs.View.{view}
use Rattle.needs.specs.Needs.{is_spoilt}
use Rattle.needs.proofs.Firsts.{first_placed}
use Rattle.needs.proofs.places.first_spoilt.Goals as goal

pub returns : goal.returns
returns c = c.place_spoilt.ensures ∙ ap (position (λ (n : Noted). is_spoilt c.args.wanted.now (record { iri = n.iri; mark = n.mark }))) c.noted.ensures ∙ first_placed (is_spoilt c.args.wanted.now) 0 (view c.args.store.now).entries
