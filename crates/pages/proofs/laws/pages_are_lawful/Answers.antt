use Rattle.pages.specs.Lawful.{page_at_few}
use Rattle.pages.proofs.Parting.{cut_before_hash, begins_with_its_opening, only_its_lines, last_feed, further_page, found_with_its_triples}
use Rattle.pages.proofs.Deciding.{sayings_decide}
use Rattle.pages.proofs.Sampling.{sampled}
use Rattle.pages.proofs.laws.pages_are_lawful.Goals as goal

pub returns : goal.returns
returns c = record { cut = cut_before_hash; begins = begins_with_its_opening; own = only_its_lines; sayings = sayings_decide; feed = last_feed; further = further_page; found = found_with_its_triples; few = page_at_few; sample = sampled }
