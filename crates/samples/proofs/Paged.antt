-- A Web of a few pages: its graph, and what is needed over it.
use Rattle.std.proofs.Common.{◌≡◌, Bool, true, false, cond, ◌↔◌, List, [], ◌∷◌, refl, ap}
use Rattle.std.proofs.lemmas.Bool.{and_parts}
use Rattle.std.specs.List.{list_all}
use Rattle.terms.specs.Terms.{Term}
use Rattle.semantics.specs.Terms.{In, has, Distinct}
use Rattle.semantics.specs.Graphs.{Graph, Closed}
use Rattle.semantics.specs.Webs.{Triple, terms_listed, about, graph_of, by_bytes}
use Rattle.semantics.proofs.Lists.{clash, has_in, in_has}
use Rattle.semantics.proofs.Bytes.{by_bytes_exact}
use Rattle.semantics.proofs.Universes.{about_in}
use Rattle.walks.specs.Plans.{Asking, Needed}
use Rattle.walks.specs.Needs.{needs}
use Rattle.walks.proofs.Listed.{needs_are_listed}
use Rattle.samples.proofs.Lists.{each_passes, within, within_has}

-- a page, or else the other pages
page_within : (a : Term) (b : Bool) (page rest : List (Triple Term)) (U : List Term) → within (terms_listed page) U ≡ true
    → (has by_bytes a (terms_listed rest) ≡ true → has by_bytes a U ≡ true) → has by_bytes a (terms_listed (cond b page rest)) ≡ true → has by_bytes a U ≡ true
page_within a true page rest U h k e = within_has (terms_listed page) U h a e
page_within a false page rest U h k e = k e

abbrev pub Pages : Type 0
Pages = List (Term × List (Triple Term))

abbrev pub paged : Pages → Term → List (Triple Term)
paged [] t = []
paged (p ∷ ps) t = cond (by_bytes.same t p.0) p.1 (paged ps t)

abbrev pub pages_within : List Term → Pages → Bool
pages_within U ps = list_all (λ p. within (terms_listed p.1) U) ps

paged_has : (U : List Term) (ps : Pages) → pages_within U ps ≡ true → (i a : Term) → has by_bytes a (terms_listed (paged ps i)) ≡ true → has by_bytes a U ≡ true
paged_has U [] h i a e = clash e refl
paged_has U (p ∷ ps) h i a e =
    let s = and_parts (within (terms_listed p.1) U) (pages_within U ps) h in
    page_within a (by_bytes.same i p.0) p.1 (paged ps i) U s.0 (paged_has U ps s.1 i a) e

pub pages_closed : (U : List Term) (ps : Pages) → Distinct by_bytes U → pages_within U ps ≡ true → Closed by_bytes (graph_of by_bytes (paged ps) U)
pages_closed U ps d h = record {
  distinct = d;
  subjects = λ a t i. (ends a t (by_bytes.is_iri a) i).0;
  objects = λ a t i. (ends a t (by_bytes.is_iri a) i).1;
  iris = λ a e. ap (λ b. cond b (about by_bytes a (paged ps a)) []) e;
}
  where
    ends : (a : Term) (t : Term × Term) (b : Bool) → In t (cond b (about by_bytes a (paged ps a)) []) → (has by_bytes a U ≡ true) × (has by_bytes t.1 U ≡ true)
    ends a t true i =
        let l = terms_listed (paged ps a) in
        let j = about_in by_bytes_exact a (paged ps a) t i in
        (paged_has U ps h a a (in_has by_bytes_exact a l j.0), paged_has U ps h a t.1 (in_has by_bytes_exact t.1 l j.1))
    ends a t false i = elim i [ ]

-- what is needed is what the computed list has, however often
pub needed_just : {G : Graph Term} → Closed by_bytes G → (q : Asking Term) (l : List Term) → within (needs by_bytes G q) l ≡ true → within l (needs by_bytes G q) ≡ true
    → (i : Term) → Needed by_bytes G q i ↔ In i l
needed_just {G} c q l h g i =
    let n = needs by_bytes G q in
    let e = needs_are_listed by_bytes by_bytes_exact G c q i in
    (λ d. has_in by_bytes_exact i l (each_passes (λ a. has by_bytes a l) n h i (e.0 d)), λ j. e.1 (has_in by_bytes_exact i n (each_passes (λ a. has by_bytes a n) l g i j)))
