-- The sample, computed from the definitions.
use Rattle.std.proofs.Common.{refl}
use Rattle.lines.specs.Lines.{lines}
use Rattle.lines.specs.Readings.{says}
use Rattle.pages.specs.Pages.{lines_on}
use Rattle.pages.specs.Samples.{Sampled}

pub sampled : Sampled
unfolding lines says lines_on
sampled = record { whole = refl; cut_bare = refl; cut = refl; cut_first = refl; unread = refl; again = refl; none = refl; unknown = refl; no_iri = refl }
