-- The terms of a lawful meaning are short.
use Rattle.std.proofs.Common.{◌≡◌, ℕ, zero, suc, ◌≤◌, Bool, true, false, cond, eqb, List, [], ◌∷◌, length, Some, None, Option, ap, arith, leb-true}
use Rattle.std.proofs.lemmas.Bool.{and_parts}
use Rattle.terms.specs.Lawful.{is_iri, lawful_bytes}
use Rattle.terms.specs.Terms.{Term}
use Rattle.terms.specs.declared.kind.Kind.{Kind}
use Rattle.terms.specs.declared.kind.Kind.TheVariants.{Iri, Literal}
use Rattle.web.specs.Laws.{Lawful, lawful_iri, lawful_triple, lawful_triples}
use Rattle.web.specs.Meaning.{Triple, Looked, triples, listed, part_of, cell}

iri_short : (x : List ℕ) → is_iri x ≡ true → length x ≤ 128
iri_short x e = leb-true (length x) 128 (and_parts _ _ (and_parts _ _ e).0).1

bytes_short : (kind : Kind) (x : List ℕ) → lawful_bytes kind x ≡ true → length x ≤ 128
bytes_short Iri x e = iri_short x e
bytes_short Literal x e = leb-true (length x) 128 (and_parts _ _ e).0

iri_term_short : (t : Term) → lawful_iri t ≡ true → length t.bytes ≤ 128
iri_term_short t e = iri_short t.bytes (and_parts _ _ e).1

-- each part of a lawful triple
part_short : (part : ℕ) (x : Triple) (t : Term) → lawful_triple x ≡ true → part_of part (Some x) ≡ Some t → length t.bytes ≤ 128
part_short part x t e = go (eqb part 1) (eqb part 2) (eqb part 3)
  where
    same : (u : Term) → length u.bytes ≤ 128 → ◌≡◌ {A = Option Term} (Some u) (Some t) → length t.bytes ≤ 128
    same u h q = let p : u ≡ t = cc in omega (arith, ap (λ (v : Term). length v.bytes) p)

    iris : (lawful_iri x.subject ≡ true) × (lawful_iri x.predicate ≡ true)
    iris = and_parts _ _ (and_parts _ _ e).0

    go : (a b c : Bool) → cond a (Some x.subject) (cond b (Some x.predicate) (cond c (Some x.object) None)) ≡ Some t → length t.bytes ≤ 128
    go true b c q = same x.subject (iri_term_short x.subject iris.0) q
    go false true c q = same x.predicate (iri_term_short x.predicate iris.1) q
    go false false true q = same x.object (bytes_short x.object.kind x.object.bytes (and_parts _ _ e).1) q
    go false false false q = absurd cc

list_short : (ts : List Triple) (place part : ℕ) (t : Term) → lawful_triples ts ≡ true → part_of part (listed place ts) ≡ Some t → length t.bytes ≤ 128
list_short [] place part t e q = absurd cc
list_short (x ∷ ts) zero part t e q = part_short part x t (and_parts _ _ e).0 q
list_short (x ∷ ts) (suc place) part t e q = list_short ts place part t (and_parts _ _ e).1 q

pub cell_short : {C : Type 0} (iri : List ℕ) (l : Looked C) (place part : ℕ) (t : Term) → Lawful iri l → cell l place part ≡ Some t → length t.bytes ≤ 128
cell_short iri l place part t h q = list_short (triples l) place part t h.terms q
