-- The text of a list of weighted rows: lines that LF ends, whose parts are parted by one tab.
use Rattle.std.specs.Prelude.{ℕ, List, [], ◌∷◌, ◌++◌, map, length, take, Some, None, codes, decimal, Option}
use Rattle.std.specs.List.{flat_map}
use Rattle.terms.specs.Terms.{Term}
use Rattle.grammar.specs.Grammar.{Name}
use Rattle.tables.specs.declared.entry.Entry.{Entry}
use Rattle.lexicon.specs.Numbering.{term_at}
use Rattle.lexicon.specs.Spelling.{spelling}

-- with a tab between each part and the next
abbrev pub joined : List (List ℕ) → List ℕ
joined [] = []
joined (x ∷ []) = x
joined (x ∷ y ∷ ys) = x ++ 9 ∷ joined (y ∷ ys)

abbrev pub line : List (List ℕ) → List ℕ
line parts = joined parts ++ 10 ∷ []

abbrev pub name_text : Name → List ℕ
name_text x = codes "?" ++ x

-- the parts of the first line: the variables and then the word for weight
abbrev pub heading : List Name → List (List ℕ)
heading names = map name_text names ++ codes "weight" ∷ []

-- nothing where there is no term
abbrev pub term_text : Option Term → List ℕ
term_text None = []
term_text (Some t) = spelling t

-- the term with a number. An unbound place is 0, the number of no term
abbrev pub place_text : List Term → ℕ → List ℕ
place_text terms number = term_text (term_at terms number)

-- the parts of a row's line: its term for each variable, and then its weight in decimal
abbrev pub row_parts : List Name → List Term → Entry → List (List ℕ)
row_parts names terms e = map (place_text terms) (take (length names) e.row.places) ++ decimal e.weight ∷ []

-- the lines, each as its parts: the first one, and one for each row
abbrev pub parts : List Name → List Entry → List Term → List (List (List ℕ))
parts names rows terms = heading names ∷ map (row_parts names terms) rows

abbrev pub text : List Name → List Entry → List Term → List ℕ
text names rows terms = flat_map line (parts names rows terms)
