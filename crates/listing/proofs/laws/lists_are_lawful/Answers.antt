use Rattle.listing.proofs.Cutting.{text_tells, one_line_more, lawful_whole, text_ends, no_rows, first_line, rows_even, example_reads}
use Rattle.listing.proofs.Taking.{names_stay, names_unparted}
use Rattle.listing.proofs.laws.lists_are_lawful.Goals as goal

pub returns : goal.returns
returns c = record {
  parts = text_tells;
  lines = one_line_more;
  terms = lawful_whole;
  ended = text_ends;
  alone = no_rows;
  first = first_line;
  even = rows_even;
  names = names_stay;
  unparted = names_unparted;
  example = example_reads;
}
