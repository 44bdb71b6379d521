-- The whole Web as a graph.
use Rattle.std.specs.Prelude.{◌≡◌, ℕ, Bool, true, false, cond, ◌&&◌, ◌⊎◌, List, [], ◌∷◌, ◌++◌, length, nat_le, nat_lt}
use Rattle.terms.specs.declared.kind.Kind.{Kind}
use Rattle.terms.specs.declared.kind.Kind.TheVariants.{Iri, Literal}
use Rattle.terms.specs.Bytes.{iri_byte}
use Rattle.terms.specs.Terms.{Term}
use Rattle.tokens.specs.Lexed.{same_bytes}
use Rattle.grammar.specs.Syntax.{Path, link, negated, inverse, star, sequence, alternative, End, constant, variable, Pattern, empty, line, and, union, opt}
use Rattle.semantics.specs.Terms.{Terms, gather, has, Distinct}
use Rattle.semantics.specs.Graphs.{Graph}

pub record Triple (A : Type 0) : Type 0 where
  pub subject : A
  pub predicate : A
  pub object : A

-- ---- the terms of a question: its ends, the IRIs of its paths, the members of its negated sets

abbrev pub terms_in_path : {A : Type 0} → Path A → List A
terms_in_path (link u) = u ∷ []
terms_in_path (negated us) = us
terms_in_path (inverse p) = terms_in_path p
terms_in_path (star p) = terms_in_path p
terms_in_path (sequence p q) = terms_in_path p ++ terms_in_path q
terms_in_path (alternative p q) = terms_in_path p ++ terms_in_path q

abbrev pub term_of_end : {A V : Type 0} → End A V → List A
term_of_end (constant t) = t ∷ []
term_of_end (variable v) = []

abbrev pub terms_in : {A V : Type 0} → Pattern A V → List A
terms_in empty = []
terms_in (line a p b) = term_of_end a ++ terms_in_path p ++ term_of_end b
terms_in (and p q) = terms_in p ++ terms_in q
terms_in (union p q) = terms_in p ++ terms_in q
terms_in (opt p q) = terms_in p ++ terms_in q

abbrev pub terms_listed : {A : Type 0} → List (Triple A) → List A
terms_listed l = gather (λ t. t.subject ∷ t.predicate ∷ t.object ∷ []) l

module _ {A : Type 0} (T : Terms A) where
  -- the triples of a list that have this subject
  abbrev pub about : A → List (Triple A) → List (A × A)
  about a [] = []
  about a (t ∷ l) = cond (T.same t.subject a) ((t.predicate, t.object) ∷ about a l) (about a l)

  -- What a Web says: the list that it finds for each IRI, and no triple where it is absent or broken. Only IRIs are looked up.
  abbrev pub graph_of : (A → List (Triple A)) → List A → Graph A
  graph_of found universe = record { context = λ a. cond (T.is_iri a) (about a (found a)) []; universe = universe }

  -- a term of the question, or of a list that is found for some IRI
  abbrev pub Met : {V : Type 0} → (A → List (Triple A)) → Pattern A V → A → Type 0
  Met found p x = (has T x (terms_in p) ≡ true) ⊎ ((i : A) × (T.is_iri i ≡ true) × (has T x (terms_listed (found i)) ≡ true))

  -- these terms, each once, in any order
  pub record Universe {V : Type 0} (found : A → List (Triple A)) (p : Pattern A V) (U : List A) : Type 0 where
    pub distinct : Distinct T U
    pub all : (x : A) → Met found p x → has T x U ≡ true
    pub none_else : (x : A) → has T x U ≡ true → Met found p x

-- ---- terms by their bytes

abbrev pub same_kind : Kind → Kind → Bool
same_kind Iri Iri = true
same_kind Iri Literal = false
same_kind Literal Iri = false
same_kind Literal Literal = true

abbrev pub is_iri_kind : Kind → Bool
is_iri_kind Iri = true
is_iri_kind Literal = false

abbrev pub by_bytes : Terms Term
by_bytes = record { same = λ a b. same_kind a.kind b.kind && same_bytes a.bytes b.bytes; is_iri = λ a. is_iri_kind a.kind }

abbrev pub all_bytes : (ℕ → Bool) → List ℕ → Bool
all_bytes ok [] = true
all_bytes ok (b ∷ bs) = ok b && all_bytes ok bs

-- 1 to 128 bytes of those that an IRI may have
abbrev pub lawful_iri : Term → Bool
lawful_iri t = is_iri_kind t.kind && (nat_lt 0 (length t.bytes) && (nat_le (length t.bytes) 128 && all_bytes iri_byte t.bytes))

-- a Web finds nothing for what is no IRI
abbrev pub Found : (Term → List (Triple Term)) → Type 0
Found found = (t : Term) → lawful_iri t ≡ false → found t ≡ []
