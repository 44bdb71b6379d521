-- A page file as a list of pages: what the file finds for every term, from what it has on its pages.
use Rattle.std.proofs.Common.{◌≡◌, ℕ, ◌+◌, Bool, true, false, cond, ◌&&◌, ◌||◌, leb, ◌⊎◌, List, [], ◌∷◌, length, None, Option, sym, refl, ap, ◌∙◌, subst, ap₂, inl, inr}
use Rattle.std.proofs.lemmas.Bool.{and_parts}
use Rattle.std.proofs.lemmas.Slice.Eq.{bytes_eq-Decides}
use Rattle.std.specs.List.{list_all}
use Rattle.std.specs.Str.{bytes_eq}
use mathlib.Core.Path.{fun_ext}
use Rattle.terms.specs.Lawful.{is_iri}
use Rattle.terms.specs.Terms.{Term}
use Rattle.terms.specs.declared.kind.Kind.{Kind}
use Rattle.terms.specs.declared.kind.Kind.TheVariants.{Iri, Literal}
use Rattle.grammar.specs.Syntax.{Pattern}
use Rattle.semantics.specs.Graphs.{Graph}
use Rattle.semantics.specs.Terms.{In, has, Distinct}
use Rattle.semantics.specs.Webs.{Triple, terms_listed, about, graph_of, Met, Universe, is_iri_kind, by_bytes}
use Rattle.semantics.proofs.Lists.{clash, by_test}
use Rattle.semantics.proofs.Bytes.{by_bytes_exact}
use Rattle.lines.specs.Lines.{lines}
use Rattle.lines.specs.Readings.{Said, nothing, opens, states, unreadable, says}
use Rattle.pages.specs.declared.cause.PageCause.{PageCause}
use Rattle.pages.specs.Pages.{Numbered, numbered, page_after, is_page, lines_on, page_of, address, page_at, web_meaning}
use Rattle.web.specs.Meaning.{Looked, absent, triples}
use Rattle.webs_meant.specs.Finding.{as_triples, found_of}
use Rattle.samples.specs.Written.{Means}
use Rattle.samples.proofs.Lists.{each_passes}
use Rattle.samples.proofs.Books.{Page, in_book, heads, neither, in_heads, headed, at_head, no_head}

abbrev addresses : List Page → List (List ℕ)
addresses [] = []
addresses (p ∷ ps) = p.0.bytes ∷ addresses ps

-- ---- lines that open no page of this address

abbrev pub with_opened : Said → List (List ℕ) → List (List ℕ)
with_opened nothing bs = bs
with_opened (opens a) bs = a ∷ bs
with_opened (states t) bs = bs
with_opened unreadable bs = bs

abbrev pub opened : List (List ℕ) → List (List ℕ)
opened [] = []
opened (l ∷ ls) = with_opened (says l) (opened ls)

abbrev pub among : List ℕ → List (List ℕ) → Bool
among a [] = false
among a (b ∷ bs) = bytes_eq b a || among a bs

still_off : (a : List ℕ) (p : Option (List ℕ)) (s : Said) (bs : List (List ℕ)) → is_page a p ≡ false → among a (with_opened s bs) ≡ false
    → (is_page a (page_after p s) ≡ false) × (among a bs ≡ false)
still_off a p nothing bs e h = (e, h)
still_off a p (opens b) bs e h = neither (bytes_eq b a) (among a bs) h
still_off a p (states t) bs e h = (e, h)
still_off a p unreadable bs e h = (e, h)

off : (a : List ℕ) (n : ℕ) (p : Option (List ℕ)) (ls : List (List ℕ)) → is_page a p ≡ false → among a (opened ls) ≡ false → lines_on a n p ls ≡ []
unfolding lines_on
off a n p [] e h = refl
off a n p (l ∷ ls) e h =
    let r = still_off a p (says l) (opened ls) e h in
    let rest : List Numbered = lines_on a (n + 1) (page_after p (says l)) ls in
    ap (λ t. cond t (numbered (n + 1) (says l) ∷ rest) rest) r.0 ∙ off a (n + 1) (page_after p (says l)) ls r.0 r.1

-- ---- a file and its pages

-- each page has its triples
abbrev pub Each : List ℕ → List Page → Type 0
Each bytes [] = Unit {0}
Each bytes (p ∷ ps) = (as_triples (triples (page_at bytes p.0.bytes)) ≡ p.1) × Each bytes ps

-- an IRI that names a page: it has no `#`
abbrev pub names_page : Term → Bool
names_page t = is_iri_kind t.kind && (is_iri t.bytes && bytes_eq (address t.bytes) t.bytes)

-- the file has these pages, and triples there speak of heads of pages alone
pub record Written (bytes : List ℕ) (pages : List Page) : Type 0 where
  pub short : leb (length bytes) 65536 ≡ true
  pub opens : opened (lines bytes) ≡ addresses pages
  pub each : Each bytes pages
  pub named : list_all (λ p. names_page p.0) pages ≡ true
  pub distinct : Distinct by_bytes (heads pages)
  pub subjects : list_all (λ p. list_all (λ r. has by_bytes r.subject (heads pages)) p.1) pages ≡ true

each_page : (bytes : List ℕ) (pages : List Page) → Each bytes pages → (p : Page) → In p pages → as_triples (triples (page_at bytes p.0.bytes)) ≡ p.1
each_page bytes [] h p i = elim i [ ]
each_page bytes (q ∷ ps) h p (inl i) = subst (λ (z : Page). as_triples (triples (page_at bytes z.0.bytes)) ≡ z.1) (sym i) h.0
each_page bytes (q ∷ ps) h p (inr i) = each_page bytes ps h.1 p i

-- an address is that of a page, or of none
addressed : (a : List ℕ) (pages : List Page) → ((p : Page) × In p pages × (a ≡ p.0.bytes)) ⊎ (among a (addresses pages) ≡ false)
addressed a [] = inr refl
addressed a (q ∷ ps) = by_test (bytes_eq q.0.bytes a)
    (λ s. inl (q, inl refl, sym ((bytes_eq-Decides q.0.bytes a).0 s)))
    (λ s. elim (addressed a ps) [ inl h ↦ inl (h.0, inr h.1, h.2) | inr h ↦ inr (ap (λ b. b || among a (addresses ps)) s ∙ h) ])

-- no triple of a list has this subject
about_none : (t : Term) (hs : List Term) (l : List (Triple Term)) → list_all (λ r. has by_bytes r.subject hs) l ≡ true → has by_bytes t hs ≡ false → about by_bytes t l ≡ []
about_none t hs [] h e = refl
about_none t hs (r ∷ l) h e =
    let c = and_parts (has by_bytes r.subject hs) (list_all (λ s. has by_bytes s.subject hs) l) h in
    by_test (by_bytes.same r.subject t)
    (λ s. clash (ap (λ z. has by_bytes z hs) (sym (by_bytes_exact.tells r.subject t s)) ∙ c.0) e)
    (λ s. ap (λ b. cond b ((r.predicate, r.object) ∷ about by_bytes t l) (about by_bytes t l)) s ∙ about_none t hs l c.1 e)

module _ (bytes : List ℕ) (pages : List Page) (b : Written bytes pages) where
  abbrev found : Term → List (Triple Term)
  found = found_of (web_meaning bytes)

  abbrev listed : Looked PageCause → List (Triple Term)
  listed l = as_triples (triples l)

  iri_found : (x : List ℕ) → found (record { kind = Iri; bytes = x }) ≡ listed (cond (is_iri x) (page_at bytes (address x)) absent)
  iri_found x = ap (λ t. listed (cond t (cond (is_iri x) (page_at bytes (address x)) absent) absent)) b.short

  -- a term finds nothing, or it is an IRI that leads to a page
  abbrev Look : Term → Type 0
  Look t = (found t ≡ []) ⊎ ((p : Page) × In p pages × (t.kind ≡ Iri) × (address t.bytes ≡ p.0.bytes) × (found t ≡ p.1))

  look : (t : Term) → Look t
  look t = go t.kind
    where
      x : List ℕ
      x = t.bytes

      led : (k : Bool) → is_iri x ≡ k → Look (record { kind = Iri; bytes = x })
      led false e = inl (iri_found x ∙ ap (λ s. listed (cond s (page_at bytes (address x)) absent)) e)
      led true e =
          let here : found (record { kind = Iri; bytes = x }) ≡ listed (page_at bytes (address x)) = iri_found x ∙ ap (λ s. listed (cond s (page_at bytes (address x)) absent)) e in
          elim (addressed (address x) pages) [
            | inl h ↦ inr (h.0, h.1, refl, h.2, here ∙ ap (λ a. listed (page_at bytes a)) h.2 ∙ each_page bytes pages b.each h.0 h.1)
            | inr h ↦ inl (here ∙ ap (λ ls. listed (page_of ls)) (off (address x) 0 None (lines bytes) refl (ap (among (address x)) b.opens ∙ h)))
          ]

      go : (k : Kind) → Look (record { kind = k; bytes = x })
      go Iri = led (is_iri x) refl
      go Literal = inl refl

  -- the head of a page finds it
  head_page : (p : Page) → In p pages → found p.0 ≡ p.1
  head_page p i =
      let h = each_passes (λ (q : Page). names_page q.0) pages b.named p i in
      let c = and_parts (is_iri_kind p.0.kind) (is_iri p.0.bytes && bytes_eq (address p.0.bytes) p.0.bytes) h in
      let d = and_parts (is_iri p.0.bytes) (bytes_eq (address p.0.bytes) p.0.bytes) c.1 in
      go p.0.kind c.0
      (iri_found p.0.bytes ∙ ap (λ s. listed (cond s (page_at bytes (address p.0.bytes)) absent)) d.0
      ∙ ap (λ a. listed (page_at bytes a)) ((bytes_eq-Decides (address p.0.bytes) p.0.bytes).0 d.1) ∙ each_page bytes pages b.each p i)
    where
      go : (k : Kind) → is_iri_kind k ≡ true → found (record { kind = Iri; bytes = p.0.bytes }) ≡ p.1 → found (record { kind = k; bytes = p.0.bytes }) ≡ p.1
      go Iri e h = h
      go Literal e h = clash e refl

  head_same : (t : Term) → has by_bytes t (heads pages) ≡ true → found t ≡ in_book pages t
  head_same t e =
      let r = headed t pages e in
      ap found r.2 ∙ head_page r.0 r.1 ∙ sym (at_head pages b.distinct r.0 r.1) ∙ sym (ap (in_book pages) r.2)

  -- an IRI that leads to a page, and has no `#`, is the page's head
  is_head : (t : Term) (p : Page) → In p pages → t.kind ≡ Iri → t.bytes ≡ p.0.bytes → t ≡ p.0
  is_head t p i k e = go p.0.kind (and_parts (is_iri_kind p.0.kind) _ (each_passes (λ (q : Page). names_page q.0) pages b.named p i)).0
    where
      go : (j : Kind) → is_iri_kind j ≡ true → t ≡ record { kind = j; bytes = p.0.bytes }
      go Iri h = ap₂ {C = Term} (λ j x. record { kind = j; bytes = x }) k e
      go Literal h = clash h refl

  lists : (t : Term) → address t.bytes ≡ t.bytes → found t ≡ in_book pages t
  lists t a = by_test (has by_bytes t (heads pages)) (head_same t) (λ e.
      elim (look t) [
        | inl h ↦ h ∙ sym (no_head t pages e)
        | inr h ↦ clash (ap (λ z. has by_bytes z (heads pages)) (is_head t h.0 h.1 h.2 (sym a ∙ h.3)) ∙ in_heads h.0 pages h.1) e
      ])

  contexts : (t : Term) → about by_bytes t (found t) ≡ about by_bytes t (in_book pages t)
  contexts t = by_test (has by_bytes t (heads pages)) (λ e. ap (about by_bytes t) (head_same t e)) (λ e.
      nothing_of t e ∙ sym (ap (about by_bytes t) (no_head t pages e)))
    where
      nothing_of : (t : Term) → has by_bytes t (heads pages) ≡ false → about by_bytes t (found t) ≡ []
      nothing_of t e =
          elim (look t) [
            | inl h ↦ ap (about by_bytes t) h
            | inr h ↦ ap (about by_bytes t) h.4
                ∙ about_none t (heads pages) h.0.1 (each_passes (λ (q : Page). list_all (λ r. has by_bytes r.subject (heads pages)) q.1) pages b.subjects h.0 h.1) e
          ]

  same_graph : (U : List Term) → graph_of by_bytes found U ≡ graph_of by_bytes (in_book pages) U
  same_graph U = ap {B = Graph Term} (λ f. record { context = f; universe = U }) (fun_ext (λ t. ap (λ c. cond (by_bytes.is_iri t) c []) (contexts t)))

  module _ {V : Type 0} (p : Pattern Term V) where
    met_there : (x : Term) → Met by_bytes found p x → Met by_bytes (in_book pages) p x
    met_there x (inl e) = inl e
    met_there x (inr m) =
        elim (look m.0) [
          | inl h ↦ clash m.2 (ap (λ l. has by_bytes x (terms_listed l)) h)
          | inr h ↦ inr (
            h.0.0,
            (and_parts (is_iri_kind h.0.0.kind) _ (each_passes (λ (q : Page). names_page q.0) pages b.named h.0 h.1)).0,
            ap (λ l. has by_bytes x (terms_listed l)) (at_head pages b.distinct h.0 h.1 ∙ sym h.4) ∙ m.2,
          )
        ]

    met_back : (x : Term) → Met by_bytes (in_book pages) p x → Met by_bytes found p x
    met_back x (inl e) = inl e
    met_back x (inr m) = by_test (has by_bytes m.0 (heads pages))
        (λ e. inr (m.0, m.1, ap (λ l. has by_bytes x (terms_listed l)) (head_same m.0 e) ∙ m.2))
        (λ e. clash m.2 (ap (λ l. has by_bytes x (terms_listed l)) (no_head m.0 pages e)))

    same_universe : (U : List Term) → Universe by_bytes (in_book pages) p U → Universe by_bytes found p U
    same_universe U u = record { distinct = u.distinct; all = λ x m. u.all x (met_there x m); none_else = λ x h. met_back x (u.none_else x h) }

  pub means : {V : Type 0} → Means V bytes (in_book pages)
  means = record { lists = lists; graph = same_graph; universe = same_universe }
