-- A lawful meaning finds nothing for what is no IRI, and what it finds is told.
use Rattle.std.proofs.Common.{◌≡◌, ℕ, false, ◌&&◌, ltb, leb, List, [], ◌∷◌, length, refl, ap, ◌∙◌, arith}
use Rattle.std.specs.List.{list_all}
use Rattle.terms.specs.Bytes.{iri_byte}
use Rattle.terms.specs.Lawful.{is_iri}
use Rattle.terms.specs.Terms.{Term}
use Rattle.terms.specs.declared.kind.Kind.{Kind}
use Rattle.terms.specs.declared.kind.Kind.TheVariants.{Iri, Literal}
use Rattle.semantics.specs.Webs.{all_bytes, lawful_iri}
use Rattle.web.specs.Agreement.{Alike}
use Rattle.web.specs.Meaning.{Looked, found, absent, broken, Mark, triples, told}
use Rattle.webs_meant.specs.Finding.{as_triples, found_of, LawfulMeaningsAreWebs}

all_iri_bytes : (x : List ℕ) → list_all iri_byte x ≡ all_bytes iri_byte x
all_iri_bytes [] = refl
all_iri_bytes (b ∷ bs) = ap (λ t. iri_byte b && t) (all_iri_bytes bs)

-- the two tests of IRIs are one
iri_test : (x : List ℕ) → is_iri x ≡ lawful_iri (record { kind = Iri; bytes = x })
iri_test x = go (length x) (list_all iri_byte x) (all_bytes iri_byte x) (all_iri_bytes x)
  where
    go : (n : ℕ) (s t : _) → s ≡ t → (leb 1 n && leb n 128) && s ≡ ltb 0 n && (leb n 128 && t)
    go n s t e = grind arith

pub lawful_found : {C : Type 0} → LawfulMeaningsAreWebs C
lawful_found {C} meaning lawful t e = go t.kind e
  where
    go : (k : Kind) → lawful_iri (record { kind = k; bytes = t.bytes }) ≡ false → found_of meaning (record { kind = k; bytes = t.bytes }) ≡ []
    go Iri e = ap (λ (l : Looked C). as_triples (triples l)) ((lawful t.bytes).no_iri (iri_test t.bytes ∙ e))
    go Literal e = refl

alike_triples : {C D : Type 0} (m : C → Mark) (n : D → Mark) (k : Looked C) (l : Looked D) → Alike (told m k) (told n l) → triples k ≡ triples l
alike_triples m n (found ts) (found us) h = h
alike_triples m n (found ts) absent h = absurd h
alike_triples m n (found ts) (broken c) h = absurd h
alike_triples m n absent (found us) h = absurd h
alike_triples m n absent absent h = refl
alike_triples m n absent (broken c) h = refl
alike_triples m n (broken c) (found us) h = absurd h
alike_triples m n (broken c) absent h = refl
alike_triples m n (broken c) (broken d) h = refl

pub agreed_found : {C D : Type 0} (m : C → Mark) (n : D → Mark) (f : List ℕ → Looked C) (g : List ℕ → Looked D) (t : Term)
    → Alike (told m (f t.bytes)) (told n (g t.bytes)) → found_of f t ≡ found_of g t
agreed_found m n f g t h = go t.kind
  where
    go : (k : Kind) → found_of f (record { kind = k; bytes = t.bytes }) ≡ found_of g (record { kind = k; bytes = t.bytes })
    go Iri = ap as_triples (alike_triples m n (f t.bytes) (g t.bytes) h)
    go Literal = refl
