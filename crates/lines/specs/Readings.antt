-- What a line says: it opens a page, `@page <IRI>`, or states a triple, `<s> <p> o .`, with single spaces. Any other line with a byte in it is
-- unreadable. Here a line is read from its front on, as the code does it. `Spelled.antt` says what a line says by how it is spelled, and that no other function
-- says the same: that is the page to check.
use Rattle.std.specs.Prelude.{ℕ, cond, List, [], ◌∷◌, length, take_while, drop, Some, None, codes, Option, ◌==◌}
use Rattle.terms.specs.Bytes.{leads}
use Rattle.terms.specs.Lawful.{lawful_bytes}
use Rattle.terms.specs.Marks as mark
use Rattle.terms.specs.Terms.{Term}
use Rattle.terms.specs.declared.kind.Kind.{Kind}
use Rattle.terms.specs.declared.kind.Kind.TheVariants.{Iri, Literal}
use Rattle.web.specs.Meaning.{Triple}
use Rattle.lines.specs.Runs.{term_byte}

pub data Said : Type 0 where
  nothing : Said
  opens : List ℕ → Said
  states : Triple → Said
  unreadable : Said

-- ---- from the front on

abbrev pub and_then : {A B : Type 0} → Option A → (A → Option B) → Option B
and_then None f = None
and_then (Some x) f = f x

-- what stands behind a text
abbrev pub behind : List ℕ → List ℕ → Option (List ℕ)
behind [] bs = Some bs
behind (c ∷ text) [] = None
behind (c ∷ text) (b ∷ bs) = cond (b == c) (behind text bs) None

-- a term's bytes without its marks, and what stands behind it
pub record Cut : Type 0 where
  pub bytes : List ℕ
  pub rest : List ℕ

-- x are the bytes of a term, and the first of bs, which stand behind its first mark
abbrev pub closed : Kind → List ℕ → List ℕ → Option Cut
closed kind x bs = cond (lawful_bytes kind x) (and_then (behind (mark.closing kind ∷ []) (drop (length x) bs)) (λ r. Some (record { bytes = x; rest = r }))) None

abbrev pub marked : Kind → List ℕ → Option Cut
marked kind line = and_then (behind (mark.opening kind ∷ []) line) (λ bs. closed kind (take_while (term_byte kind) bs) bs)

-- an IRI and a space
abbrev pub named : List ℕ → Option Cut
named bs = and_then (marked Iri bs) (λ c. and_then (behind (codes " ") c.rest) (λ r. Some (record { bytes = c.bytes; rest = r })))

abbrev pub object_kind : List ℕ → Kind
object_kind bs = cond (leads 34 bs) Literal Iri

abbrev pub ended : List ℕ → Option (List ℕ)
ended [] = Some []
ended (b ∷ bs) = None

-- ---- whole lines

-- the address of the page that a line opens
abbrev pub opening : List ℕ → Option (List ℕ)
opening line = and_then (behind (codes "@page ") line) (λ r. and_then (marked Iri r) (λ c. and_then (ended c.rest) (λ e. Some c.bytes)))

abbrev pub iri_term : List ℕ → Term
iri_term x = record { kind = Iri; bytes = x }

abbrev pub triple : List ℕ → List ℕ → Kind → List ℕ → Triple
triple s p kind o = record { subject = iri_term s; predicate = iri_term p; object = record { kind = kind; bytes = o } }

abbrev pub statement : List ℕ → Option Triple
statement line =
    and_then (named line) (λ s. and_then (named s.rest) (λ p. and_then (marked (object_kind p.rest) p.rest)
    (λ o. and_then (behind (codes " .") o.rest) (λ r. and_then (ended r) (λ e. Some (triple s.bytes p.bytes (object_kind p.rest) o.bytes))))))

abbrev pub or_states : Option Triple → Said
or_states None = unreadable
or_states (Some t) = states t

abbrev pub or_opens : Option (List ℕ) → Said → Said
or_opens None s = s
or_opens (Some a) s = opens a

unfoldable pub says : List ℕ → Said
says [] = nothing
says (b ∷ bs) = or_opens (opening (b ∷ bs)) (or_states (statement (b ∷ bs)))
