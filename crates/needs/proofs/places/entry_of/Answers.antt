use Rattle.std.proofs.Common.{◌==◌, position, ap, ◌∙◌}
use Rattle.shelf.specs.declared.items.Noted.{Noted}
use Rattle.store.specs.View.{view}
use Rattle.needs.specs.Needs.{is_of}
use Rattle.needs.proofs.Firsts.{first_placed}
use Rattle.needs.proofs.places.entry_of.Goals as goal

pub returns : goal.returns
returns c = c.place_of.ensures ∙ ap (position (λ (n : Noted). n.iri == c.args.iri)) c.noted.ensures ∙ first_placed (is_of c.args.iri) 0 (view c.args.store.now).entries
