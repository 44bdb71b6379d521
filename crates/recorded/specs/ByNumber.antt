-- The documents at hand by number, against the same by term.
use Rattle.std.specs.Prelude.{◌≡◌, ℕ, Bool, true, false, cond, ◌&&◌, List, [], ◌∷◌, map, length, is_some, unwrap_or, nat_le, nat_lt}
use Rattle.terms.specs.Terms.{Term}
use Rattle.grammar.specs.Syntax.{Pattern}
use Rattle.semantics.specs.Terms.{In}
use Rattle.semantics.specs.Graphs.{Graph}
use Rattle.semantics.specs.Webs.{Triple, terms_in, graph_of, Universe, is_iri_kind, by_bytes}
use Rattle.walks.specs.Shelves.{Told, found, absent, broken, shelf_by, shelf_graph}
use Rattle.walks.specs.Translated.{each, pattern_by, Faithful}
use Rattle.web.specs.Agreement.{Tells}
use Rattle.web.specs.Meaning as web
use Rattle.webs_meant.specs.Finding.{as_triples}
use Rattle.lexicon.specs.Numbering.{number_of, term_at}
use Rattle.lexicon.specs.Held.{kind_of}
use Rattle.lexicon.specs.Parts.{no_term}
use Rattle.shelf.specs.declared.items.Mark.{Mark}
use Rattle.shelf.specs.declared.items.Mark.TheVariants.{Found, Absent, Broken, Unfit}
use Rattle.shelf.specs.declared.shelf.Shelf.{Shelf}
use Rattle.shelf.specs.Contexts.{context_on}
use Rattle.store.specs.declared.record.Entry.{Entry}
use Rattle.store.specs.State.{State, placed}
use Rattle.evaluation.specs.Evaluated.{found_on, terms_on}
use Rattle.recorded.specs.Recorded.{Recorded}

-- ---- numbers and terms

-- the term with a number, and whether there is one
abbrev pub named : List Term → ℕ → Term
named ts n = unwrap_or (term_at ts n) no_term

abbrev pub is_number : List Term → ℕ → Bool
is_number ts n = is_some (term_at ts n)

-- a term of the session: its number leads back to it
abbrev pub is_known : List Term → Term → Bool
is_known ts t = is_number ts (number_of ts t)

abbrev pub triple_by : {A B : Type 0} → (A → B) → Triple A → Triple B
triple_by f t = record { subject = f t.subject; predicate = f t.predicate; object = f t.object }

-- ---- a Web and a record of it, as the laws of walks ask for them

abbrev pub as_told : web.Told → Told Term
as_told (web.found xs) = found (as_triples xs)
as_told web.absent = absent
as_told (web.broken m) = broken m.code m.place

-- what a Web tells of a term; only IRIs are looked up
abbrev pub tells_by : Tells → Term → Told Term
tells_by v t = cond (is_iri_kind t.kind) (as_told (v t.bytes)) absent

abbrev pub is_unfit : Mark → Bool
is_unfit (Found n) = false
is_unfit Absent = false
is_unfit (Broken code place) = false
is_unfit Unfit = true

-- the IRIs that are recorded and not as unfit
abbrev pub fit : List Term → List Entry → List Term
fit ts [] = []
fit ts (e ∷ es) = cond (is_unfit e.mark) (fit ts es) (named ts e.iri ∷ fit ts es)

-- of all that the Web finds, the lists at these IRIs, and nothing else
abbrev pub documents_of : Tells → State → Term → List (Triple Term)
documents_of v s = shelf_by by_bytes (tells_by v) (fit s.terms s.entries)

abbrev pub graph_in : Tells → State → List Term → Graph Term
graph_in v s V = shelf_graph by_bytes (tells_by v) (fit s.terms s.entries) V

-- ---- a shelf that a store lends, as Store::shelf says

pub record Lends (s : State) (h : Shelf) : Type 0 where
  pub kinds : h.kinds.now ≡ map kind_of s.terms
  pub noted : h.noted.now ≡ placed 0 s.entries
  pub triples : h.triples.now ≡ s.triples

abbrev pub graph_on : Shelf → List ℕ → Graph ℕ
graph_on h U = graph_of (terms_on h) (found_on h) U

-- a question by number, and the documents at hand
pub record AtHand (v : Tells) (s : State) (h : Shelf) (p : Pattern ℕ ℕ) (U : List ℕ) : Type 0 where
  pub recorded : Recorded v s
  pub lends : Lends s h
  -- its terms are terms of the session
  pub numbers : (n : ℕ) → In n (terms_in p) → is_number s.terms n ≡ true
  pub universe : Universe (terms_on h) (found_on h) p U

-- ---- laws

-- Terms are numbered from 1 on.
abbrev pub NumbersCount : Type 0
NumbersCount = (ts : List Term) (n : ℕ) → is_number ts n ≡ nat_lt 0 n && nat_le n (length ts)

-- What is found for a number is, under the terms that numbers name, what the Web finds for its term, if that is recorded and fit, and nothing else.
abbrev pub DocumentsAreTheWebs : Type 0
DocumentsAreTheWebs =
    (v : Tells) (s : State) (h : Shelf) → Recorded v s → Lends s h → (n : ℕ) → is_number s.terms n ≡ true
    → documents_of v s (named s.terms n) ≡ each (triple_by (named s.terms)) (found_on h n)

-- So is the context of a number.
abbrev pub ContextsAreTheWebs : Type 0
ContextsAreTheWebs =
    (v : Tells) (s : State) (h : Shelf) → Recorded v s → Lends s h → (V : List Term) (n : ℕ) → is_number s.terms n ≡ true
    → (graph_in v s V).context (named s.terms n) ≡ each (λ t. (named s.terms t.0, named s.terms t.1)) (context_on h n)

-- The graph by number and the graph by term are one, under other names for their terms, either way.
pub record Namesakes (v : Tells) (s : State) (h : Shelf) (p : Pattern ℕ ℕ) (U : List ℕ) : Type 0 where
  pub to_terms : Faithful (terms_on h) by_bytes (is_number s.terms) (named s.terms) (graph_on h U) (graph_in v s (each (named s.terms) U)).context
  pub to_numbers : Faithful by_bytes (terms_on h) (is_known s.terms) (number_of s.terms) (graph_in v s (each (named s.terms) U)) (graph_on h U).context
  -- and the terms of the one are those of the other
  pub universe : Universe by_bytes (documents_of v s) (pattern_by (named s.terms) p) (each (named s.terms) U)

abbrev pub GraphsAreNamesakes : Type 0
GraphsAreNamesakes = (v : Tells) (s : State) (h : Shelf) (p : Pattern ℕ ℕ) (U : List ℕ) → AtHand v s h p U → Namesakes v s h p U
