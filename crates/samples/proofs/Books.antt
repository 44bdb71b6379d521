-- A list of pages as a Web: what it finds, and its universe.
use Rattle.std.proofs.Common.{◌≡◌, Bool, true, false, cond, ◌||◌, List, [], ◌∷◌, sym, refl, ap, ◌∙◌, subst, inl, inr, arith}
use Rattle.std.proofs.lemmas.Bool.{and_parts, or_left, or_right}
use Rattle.std.specs.List.{list_all}
use Rattle.terms.specs.Terms.{Term}
use Rattle.grammar.specs.Syntax.{Pattern}
use Rattle.semantics.specs.Terms.{In, gather, has, Distinct}
use Rattle.semantics.specs.Webs.{Triple, terms_in, terms_listed, Met, Universe, is_iri_kind, by_bytes, lawful_iri, Found}
use Rattle.semantics.proofs.Lists.{clash, by_test, has_in, in_has, in_gather, gather_in}
use Rattle.semantics.proofs.Bytes.{by_bytes_exact}
use Rattle.samples.proofs.Lists.{each_passes, within, within_has}

-- a page is an IRI with its triples
abbrev pub Page : Type 0
Page = Term × List (Triple Term)

abbrev pub in_book : List Page → Term → List (Triple Term)
in_book [] t = []
in_book (p ∷ ps) t = cond (by_bytes.same t p.0) p.1 (in_book ps t)

abbrev pub heads : List Page → List Term
heads [] = []
heads (p ∷ ps) = p.0 ∷ heads ps

pub neither : (s t : Bool) → s || t ≡ false → (s ≡ false) × (t ≡ false)
neither s t e = (grind arith, grind arith)

pub in_heads : (p : Page) (pages : List Page) → In p pages → has by_bytes p.0 (heads pages) ≡ true
in_heads p [] i = elim i [ ]
in_heads p (q ∷ ps) (inl i) = or_left (by_bytes.same p.0 q.0) (has by_bytes p.0 (heads ps)) (ap (λ (z : Page). by_bytes.same p.0 z.0) (sym i) ∙ by_bytes_exact.told p.0)
in_heads p (q ∷ ps) (inr i) = or_right (by_bytes.same p.0 q.0) (has by_bytes p.0 (heads ps)) (in_heads p ps i)

pub headed : (t : Term) (pages : List Page) → has by_bytes t (heads pages) ≡ true → (p : Page) × In p pages × (t ≡ p.0)
headed t [] e = clash e refl
headed t (q ∷ ps) e = by_test (by_bytes.same t q.0)
    (λ s. (q, inl refl, by_bytes_exact.tells t q.0 s))
    (λ s. let r = headed t ps (ap (λ b. b || has by_bytes t (heads ps)) (sym s) ∙ e) in (r.0, inr r.1, r.2))

-- a page is found under its head
pub at_head : (pages : List Page) → Distinct by_bytes (heads pages) → (p : Page) → In p pages → in_book pages p.0 ≡ p.1
at_head [] d p i = elim i [ ]
at_head (q ∷ ps) d p (inl i) = subst (λ (z : Page). in_book (q ∷ ps) z.0 ≡ z.1) (sym i) (ap (λ b. cond b q.1 (in_book ps q.0)) (by_bytes_exact.told q.0))
at_head (q ∷ ps) d p (inr i) = by_test (by_bytes.same p.0 q.0)
    (λ s. clash (ap (λ z. has by_bytes z (heads ps)) (sym (by_bytes_exact.tells p.0 q.0 s)) ∙ in_heads p ps i) d.0)
    (λ s. ap (λ b. cond b q.1 (in_book ps p.0)) s ∙ at_head ps d.1 p i)

pub no_head : (t : Term) (pages : List Page) → has by_bytes t (heads pages) ≡ false → in_book pages t ≡ []
no_head t [] e = refl
no_head t (q ∷ ps) e = let r = neither (by_bytes.same t q.0) (has by_bytes t (heads ps)) e in ap (λ b. cond b q.1 (in_book ps t)) r.0 ∙ no_head t ps r.1

-- ---- a Web and its universe

abbrev terms_on : List Page → List Term
terms_on pages = gather (λ p. terms_listed p.1) pages

-- the pages stand under distinct IRIs, and the list has their terms, each once
pub record Whole (pages : List Page) (U : List Term) : Type 0 where
  pub lawful : list_all lawful_iri (heads pages) ≡ true
  pub apart : Distinct by_bytes (heads pages)
  pub distinct : Distinct by_bytes U
  pub all : within (terms_on pages) U ≡ true
  pub none_else : within U (terms_on pages) ≡ true

module _ (pages : List Page) (U : List Term) (w : Whole pages U) where
  pub book_found : Found (in_book pages)
  book_found t e = by_test (has by_bytes t (heads pages))
      (λ s. clash (each_passes lawful_iri (heads pages) w.lawful t (has_in by_bytes_exact t (heads pages) s)) e)
      (no_head t pages)

  pub book_universe : {V : Type 0} (q : Pattern Term V) → within (terms_in q) U ≡ true → Universe by_bytes (in_book pages) q U
  book_universe {V} q h = record { distinct = w.distinct; all = all; none_else = none_else }
    where
      on_page : (i a : Term) → has by_bytes a (terms_listed (in_book pages i)) ≡ true → has by_bytes a U ≡ true
      on_page i a e = by_test (has by_bytes i (heads pages))
          (λ s. let r = headed i pages s in
          within_has (terms_on pages) U w.all a
          (in_has by_bytes_exact a (terms_on pages)
          (gather_in (λ (p : Page). terms_listed p.1) pages r.0 a r.1
          (has_in by_bytes_exact a (terms_listed r.0.1)
          (ap (λ l. has by_bytes a (terms_listed l)) (sym (ap (in_book pages) r.2 ∙ at_head pages w.apart r.0 r.1)) ∙ e)))))
          (λ s. clash e (ap (λ l. has by_bytes a (terms_listed l)) (no_head i pages s)))

      all : (a : Term) → Met by_bytes (in_book pages) q a → has by_bytes a U ≡ true
      all a (inl e) = within_has (terms_in q) U h a e
      all a (inr e) = on_page e.0 a e.2

      none_else : (a : Term) → has by_bytes a U ≡ true → Met by_bytes (in_book pages) q a
      none_else a e =
          let r = in_gather (λ (p : Page). terms_listed p.1) pages a (has_in by_bytes_exact a (terms_on pages) (within_has U (terms_on pages) w.none_else a e)) in
          inr (
            r.0.0,
            (and_parts (is_iri_kind r.0.0.kind) _ (each_passes lawful_iri (heads pages) w.lawful r.0.0 (has_in by_bytes_exact r.0.0 (heads pages) (in_heads r.0 pages r.1)))).0,
            ap (λ l. has by_bytes a (terms_listed l)) (at_head pages w.apart r.0 r.1) ∙ in_has by_bytes_exact a (terms_listed r.0.1) r.2,
          )
