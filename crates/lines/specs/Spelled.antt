-- The format of lines by how it is spelled: which bytes lie in lines, and which line says what. These laws hold of `lines` and `says` and of no other functions,
-- so this is the page to check against the format's description. How `says` reads a line from its front on need not be checked.
use Rattle.std.specs.Prelude.{◌≡◌, ℕ, true, false, ◌⊎◌, List, [], ◌∷◌, ◌++◌, codes, ◌==◌, ◌≢◌}
use Rattle.terms.specs.Lawful.{is_iri}
use Rattle.terms.specs.Marks as mark
use Rattle.terms.specs.Terms.{Term}
use Rattle.terms.specs.declared.kind.Kind.{Kind}
use Rattle.terms.specs.declared.kind.Kind.TheVariants.{Iri}
use Rattle.web.specs.Laws.{lawful_triple}
use Rattle.web.specs.Meaning.{Triple}
use Rattle.lines.specs.Lines.{lines}
use Rattle.lines.specs.Readings.{Said, nothing, opens, states, unreadable, says}

-- ---- lines

-- no byte is LF
abbrev pub Unbroken : List ℕ → Type 0
Unbroken [] = Unit {0}
Unbroken (b ∷ bs) = ((b == 10) ≡ false) × Unbroken bs

-- the file is these lines: each ends with LF, but bytes at the file's end are a line too
abbrev pub Laid : List ℕ → List (List ℕ) → Type 0
Laid file [] = file ≡ []
Laid file (l ∷ ls) = Unbroken l × (((rest : List ℕ) × (file ≡ l ++ (10 ∷ rest)) × Laid rest ls) ⊎ ((file ≡ l) × (l ≢ []) × (ls ≡ [])))

abbrev pub EveryFileIsLaid : Type 0
EveryFileIsLaid = (file : List ℕ) → Laid file (lines file)

abbrev pub LaidOnce : Type 0
LaidOnce = (file : List ℕ) (ls : List (List ℕ)) → Laid file ls → ls ≡ lines file

-- ---- what a line says

abbrev pub in_marks : Kind → List ℕ → List ℕ
in_marks kind x = mark.opening kind ∷ (x ++ (mark.closing kind ∷ []))

-- <IRI> or "literal"
abbrev pub spelled_term : Term → List ℕ
spelled_term t = in_marks t.kind t.bytes

-- <s> <p> o .
abbrev pub spelled : Triple → List ℕ
spelled t = spelled_term t.subject ++ (codes " " ++ (spelled_term t.predicate ++ (codes " " ++ (spelled_term t.object ++ codes " ."))))

-- @page <IRI>
abbrev pub opening_line : List ℕ → List ℕ
opening_line a = codes "@page " ++ in_marks Iri a

-- the line has a byte, and spells neither an opening nor a triple
pub record SpellsNone (line : List ℕ) : Type 0 where
  pub some : line ≢ []
  pub no_opening : (a : List ℕ) → is_iri a ≡ true → line ≢ opening_line a
  pub no_triple : (t : Triple) → lawful_triple t ≡ true → line ≢ spelled t

abbrev pub NothingWhenEmpty : (List ℕ → Said) → Type 0
NothingWhenEmpty f = (line : List ℕ) → (f line ≡ nothing → line ≡ []) × (line ≡ [] → f line ≡ nothing)

abbrev pub OpensAsSpelled : (List ℕ → Said) → Type 0
OpensAsSpelled f = (line a : List ℕ) → (f line ≡ opens a → (line ≡ opening_line a) × (is_iri a ≡ true)) × (line ≡ opening_line a → is_iri a ≡ true → f line ≡ opens a)

abbrev pub StatesAsSpelled : (List ℕ → Said) → Type 0
StatesAsSpelled f =
    (line : List ℕ) (t : Triple) → (f line ≡ states t → (line ≡ spelled t) × (lawful_triple t ≡ true)) × (line ≡ spelled t → lawful_triple t ≡ true → f line ≡ states t)

abbrev pub UnreadableElse : (List ℕ → Said) → Type 0
UnreadableElse f = (line : List ℕ) → (f line ≡ unreadable → SpellsNone line) × (SpellsNone line → f line ≡ unreadable)

-- f tells of every line what it spells
pub record AsSpelled (f : List ℕ → Said) : Type 0 where
  pub empty : NothingWhenEmpty f
  pub opening : OpensAsSpelled f
  pub triple : StatesAsSpelled f
  pub other : UnreadableElse f

-- no function but `says` does
abbrev pub OnlySays : Type 0
OnlySays = (f : List ℕ → Said) → AsSpelled f → (line : List ℕ) → f line ≡ says line
