-- The pair keeps the laws, since either Web keeps them.
use Rattle.std.specs.Prelude.{◌≡◌, ℕ, false, List, refl}
use Rattle.terms.specs.Lawful.{is_iri}
use Rattle.web.specs.Meaning.{Looked, found, absent, broken}
use Rattle.web.specs.Laws.{Lawful}
use Rattle.web.specs.Pairs.{both, as_second}

second_absent : {A B : Type 0} (l : Looked B) → l ≡ absent → as_second {A = A} l ≡ absent
second_absent (found ts) e = absurd cc
second_absent absent e = refl
second_absent (broken c) e = absurd cc

both_absent : {A B : Type 0} (k : Looked A) (l : Looked B) → k ≡ absent → l ≡ absent → both k l ≡ absent
both_absent (found ts) l e f = absurd cc
both_absent {A} absent l e f = second_absent {A = A} l f
both_absent (broken c) l e f = absurd cc

-- the second's triples are the pair's
second_lawful : {A B : Type 0} (iri : List ℕ) (l : Looked B) → (is_iri iri ≡ false → as_second {A = A} l ≡ absent) → Lawful iri l → Lawful iri (as_second {A = A} l)
second_lawful iri (found ts) e h = record { no_iri = e; few = h.few; terms = h.terms }
second_lawful iri absent e h = record { no_iri = e; few = h.few; terms = h.terms }
second_lawful iri (broken c) e h = record { no_iri = e; few = h.few; terms = h.terms }

pub pair_lawful : {A B : Type 0} {iri : List ℕ} {k : Looked A} {l : Looked B} → Lawful iri k → Lawful iri l → Lawful iri (both k l)
pair_lawful {A} {B} {iri} {k} {l} g h = go k g
  where
    go : (k : Looked A) → Lawful iri k → Lawful iri (both k l)
    go (found ts) g = record { no_iri = λ e. both_absent (found ts) l (g.no_iri e) (h.no_iri e); few = g.few; terms = g.terms }
    go absent g = second_lawful {A = A} iri l (λ e. second_absent {A = A} l (h.no_iri e)) h
    go (broken c) g = record { no_iri = λ e. both_absent (broken c) l (g.no_iri e) (h.no_iri e); few = g.few; terms = g.terms }
