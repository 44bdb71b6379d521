-- The documents of each example, as pages: they are a Web with the universe that is listed, and the page file means them. What the questions solve to is found
-- by computing.
use Rattle.std.proofs.Common.{List, [], ◌∷◌, refl}
use Rattle.lines.specs.Lines.{lines}
use Rattle.lines.specs.Readings.{says}
use Rattle.pages.specs.Pages.{lines_on}
use Rattle.semantics.specs.Webs.{terms_in}
use Rattle.samples.specs.Feeders as feeders
use Rattle.samples.specs.File as file
use Rattle.samples.specs.Shown.{FileIsAWeb, walked}
use Rattle.samples.specs.Static as static
use Rattle.samples.specs.Weighed as weighed
use Rattle.samples.specs.Written.{four_pages, feeder_pages, weighed_pages, plan_pages, FileIsWritten, FeedersAreWritten, WeighedIsWritten, PlansAreWritten}
use Rattle.samples.proofs.Lists.{each_passes, within}
use Rattle.samples.proofs.Books.{Page, Whole, book_found, book_universe}
use Rattle.samples.proofs.Files.{Written, means}

-- ---- the four pages

abbrev file_book : List Page
file_book =
    (file.m1, file.triple file.m1 file.alt file.m2 ∷ file.triple file.m1 file.alt file.m3 ∷ [])
    ∷ (file.m2, file.triple file.m2 file.val file.ten ∷ [])
    ∷ (file.m3, file.triple file.m3 file.val file.ten ∷ file.triple file.m2 file.val file.twenty_two ∷ [])
    ∷ (file.m4, file.triple file.m4 file.val file.forty_seven ∷ [])
    ∷ []

file_whole : Whole file_book file.universe
file_whole = record {
  lawful = refl;
  apart = (refl, (refl, (refl, (refl, tt))));
  distinct = (refl, (refl, (refl, (refl, (refl, (refl, (refl, (refl, (refl, tt)))))))));
  all = refl;
  none_else = refl;
}

pub file_is_a_web : FileIsAWeb
file_is_a_web = (
  book_found file_book file.universe file_whole,
  λ q i. book_universe file_book file.universe file_whole q (each_passes (λ p. within (terms_in p) file.universe) walked refl q i),
)

file_written : Written four_pages file_book
unfolding lines says lines_on
file_written = record { short = refl; opens = refl; each = (refl, (refl, (refl, (refl, tt)))); named = refl; distinct = (refl, (refl, (refl, (refl, tt)))); subjects = refl }

pub file_is_written : FileIsWritten
file_is_written = means four_pages file_book file_written

-- ---- the feeders

abbrev feeder_book : List Page
feeder_book =
    (feeders.b7, file.triple feeders.b7 feeders.place feeders.c1 ∷ file.triple feeders.b7 feeders.place feeders.c2 ∷ [])
    ∷ (feeders.c1, file.triple feeders.c1 feeders.alt feeders.c3 ∷ [])
    ∷ (feeders.c2, file.triple feeders.c2 feeders.alt feeders.c3 ∷ [])
    ∷ (feeders.c3, file.triple feeders.c3 feeders.fits feeders.f1 ∷ file.triple feeders.c3 feeders.fits feeders.f2 ∷ [])
    ∷ []

feeders_whole : Whole feeder_book feeders.universe
feeders_whole = record {
  lawful = refl;
  apart = (refl, (refl, (refl, (refl, tt))));
  distinct = (refl, (refl, (refl, (refl, (refl, (refl, (refl, (refl, (refl, tt)))))))));
  all = refl;
  none_else = refl;
}

pub feeders_are_a_web : feeders.FeedersAreAWeb
feeders_are_a_web = (
  book_found feeder_book feeders.universe feeders_whole,
  book_universe feeder_book feeders.universe feeders_whole feeders.first refl,
  book_universe feeder_book feeders.universe feeders_whole feeders.second refl,
)

feeders_written : Written feeder_pages feeder_book
unfolding lines says lines_on
feeders_written = record { short = refl; opens = refl; each = (refl, (refl, (refl, (refl, tt)))); named = refl; distinct = (refl, (refl, (refl, (refl, tt)))); subjects = refl }

pub feeders_are_written : FeedersAreWritten
feeders_are_written = means feeder_pages feeder_book feeders_written

-- ---- the small graph

abbrev weighed_book : List Page
weighed_book = (
  weighed.a1,
  file.triple weighed.a1 weighed.alt weighed.x1 ∷ file.triple weighed.a1 weighed.alt weighed.x1 ∷ file.triple weighed.a1 weighed.alt weighed.x2 ∷ file.triple weighed.a1 weighed.like weighed.x2 ∷ [],
)
    ∷ (weighed.x1, file.triple weighed.x1 weighed.val weighed.ten ∷ [])
    ∷ []

weighed_whole : Whole weighed_book weighed.universe
weighed_whole = record {
  lawful = refl;
  apart = (refl, (refl, tt));
  distinct = (refl, (refl, (refl, (refl, (refl, (refl, (refl, tt)))))));
  all = refl;
  none_else = refl;
}

pub weighed_is_a_web : weighed.WeighedIsAWeb
weighed_is_a_web = (
  book_found weighed_book weighed.universe weighed_whole,
  λ q i. book_universe weighed_book weighed.universe weighed_whole q (each_passes (λ p. within (terms_in p) weighed.universe) weighed.asked refl q i),
)

weighed_written : Written weighed_pages weighed_book
unfolding lines says lines_on
weighed_written = record { short = refl; opens = refl; each = (refl, (refl, tt)); named = refl; distinct = (refl, (refl, tt)); subjects = refl }

pub weighed_is_written : WeighedIsWritten
weighed_is_written = means weighed_pages weighed_book weighed_written

-- ---- the plans

abbrev plan_book : List Page
plan_book =
    (static.a1, file.triple static.a1 static.alt static.x1 ∷ [])
    ∷ (static.x1, file.triple static.x1 static.val static.y1 ∷ [])
    ∷ (static.b1, file.triple static.b1 static.names static.y2 ∷ [])
    ∷ (static.y1, file.triple static.y1 static.leads_to static.z1 ∷ [])
    ∷ []

plans_whole : Whole plan_book static.universe
plans_whole = record {
  lawful = refl;
  apart = (refl, (refl, (refl, (refl, tt))));
  distinct = (refl, (refl, (refl, (refl, (refl, (refl, (refl, (refl, (refl, (refl, tt))))))))));
  all = refl;
  none_else = refl;
}

pub plans_are_a_web : static.PlansAreAWeb
plans_are_a_web = (
  book_found plan_book static.universe plans_whole,
  λ q i. book_universe plan_book static.universe plans_whole q (each_passes (λ p. within (terms_in p) static.universe) static.asked refl q i),
)

plans_written : Written plan_pages plan_book
unfolding lines says lines_on
plans_written = record { short = refl; opens = refl; each = (refl, (refl, (refl, (refl, tt)))); named = refl; distinct = (refl, (refl, (refl, (refl, tt)))); subjects = refl }

pub plans_are_written : PlansAreWritten
plans_are_written = means plan_pages plan_book plans_written
