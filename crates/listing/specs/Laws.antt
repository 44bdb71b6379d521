-- What a reader of a list can rely on.
use Rattle.std.specs.Prelude.{◌≡◌, ℕ, ◌+◌, ◌^◌, ◌≤◌, Bool, true, cond, not, ◌||◌, List, [], ◌∷◌, ◌++◌, length, take, codes, ◌==◌, nat_lt}
use Rattle.std.specs.List.{list_all}
use Rattle.terms.specs.Lawful.{lawful}
use Rattle.terms.specs.Terms.{Term}
use Rattle.grammar.specs.Grammar.{Name}
use Rattle.grammar.specs.Reading.{Asked, Question}
use Rattle.tables.specs.declared.entry.Entry.{Entry}
use Rattle.lexicon.specs.Numbering.{term}
use Rattle.terms.specs.declared.kind.Kind.TheVariants.{Literal}
use Rattle.listing.specs.Named.{shortened}
use Rattle.listing.specs.Text.{heading, line, row_parts, parts, text}

-- ---- a text cut again

-- Tab ends a part, and LF ends a line with its last part. First the parts of the line that is being read, then the part so far.
abbrev pub cut : List (List ℕ) → List ℕ → List ℕ → List (List (List ℕ))
cut before part [] = []
cut before part (b ∷ bs) =
    cond (b == 10) ((before ++ part ∷ []) ∷ cut [] [] bs)
    (cond (b == 9) (cut (before ++ part ∷ []) [] bs) (cut before (part ++ b ∷ []) bs))

-- the lines of a text, each as its parts
abbrev pub lines_of : List ℕ → List (List (List ℕ))
lines_of x = cut [] [] x

-- no tab and no LF
abbrev pub whole : List ℕ → Bool
whole x = list_all (λ b. not (b == 9 || b == 10)) x

abbrev pub whole_terms : List Term → Bool
whole_terms terms = list_all (λ t. whole t.bytes) terms

-- weights of 32 bits
abbrev pub weights_fit : List Entry → Bool
weights_fit rows = list_all (λ e. nat_lt e.weight (2 ^ 32)) rows

-- From the text its lines and their parts can be told.
abbrev pub TextTellsItsParts : Type 0
TextTellsItsParts =
    (names : List Name) (rows : List Entry) (terms : List Term)
    → list_all whole names ≡ true → whole_terms terms ≡ true → weights_fit rows ≡ true
    → lines_of (text names rows terms) ≡ parts names rows terms

abbrev pub OneLineMoreThanRows : Type 0
OneLineMoreThanRows =
    (names : List Name) (rows : List Entry) (terms : List Term)
    → list_all whole names ≡ true → whole_terms terms ≡ true → weights_fit rows ≡ true
    → length (lines_of (text names rows terms)) ≡ length rows + 1

-- such are the terms that may occur
abbrev pub LawfulTermsAreWhole : Type 0
LawfulTermsAreWhole = (t : Term) → lawful t ≡ true → whole t.bytes ≡ true

-- ---- of every text

-- The last line is not cut off, and so no other, since a text is made of lines.
abbrev pub TextEndsWithItsLine : Type 0
TextEndsWithItsLine = (names : List Name) (rows : List Entry) (terms : List Term) → (x : List ℕ) × (text names rows terms ≡ x ++ 10 ∷ [])

abbrev pub NoRowsAreOneLine : Type 0
NoRowsAreOneLine = (names : List Name) (terms : List Term) → text names [] terms ≡ line (heading names)

-- the first line depends on the names alone
abbrev pub FirstLineIsOfNames : Type 0
FirstLineIsOfNames =
    (names : List Name) (rows : List Entry) (terms : List Term)
    → take (length (line (heading names))) (text names rows terms) ≡ line (heading names)

-- where there are no more names than places: there are eight places, and eight names at most
abbrev pub RowsHaveThePartsOfTheHeading : Type 0
RowsHaveThePartsOfTheHeading =
    (names : List Name) (terms : List Term) (e : Entry)
    → length names ≤ length e.row.places → length (row_parts names terms e) ≡ length (heading names)

-- ---- names

-- Of a text that is a question, each name is held as it is.
abbrev pub NamesOfQuestionsStay : Type 0
NamesOfQuestionsStay = (x : List ℕ) (q : Asked) → Question x q → shortened q.names ≡ q.names

-- and it has no tab and no LF
abbrev pub NamesOfQuestionsAreWhole : Type 0
NamesOfQuestionsAreWhole = (x : List ℕ) (q : Asked) → Question x q → list_all whole q.names ≡ true

-- ---- an example

abbrev pub ExampleReads : Type 0
ExampleReads =
    (e : Entry) → e.row.places ≡ 1 ∷ 0 ∷ 0 ∷ 0 ∷ 0 ∷ 0 ∷ 0 ∷ 0 ∷ [] → e.weight ≡ 2
    → text (codes "v" ∷ []) (e ∷ []) (term Literal (codes "10u") ∷ []) ≡ codes "?v\tweight\n\"10u\"\t2\n"
