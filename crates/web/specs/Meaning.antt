-- What a Web holds at an address: a list of triples, nothing, or a cause why it cannot be read.
use Rattle.std.specs.Prelude.{ℕ, zero, suc, cond, List, [], ◌∷◌, Some, None, Option, ◌==◌}
use Rattle.terms.specs.Terms.{Term}

pub record Triple : Type 0 where
  pub subject : Term
  pub predicate : Term
  pub object : Term

-- C is the type of a make's own causes
pub data Looked (C : Type 0) : Type 0 where
  found : List Triple → Looked C
  absent : Looked C
  broken : C → Looked C

-- the list that is found, if one is
abbrev pub triples : {C : Type 0} → Looked C → List Triple
triples (found ts) = ts
triples absent = []
triples (broken c) = []

-- ---- one term of a list

-- the triple at a place, from 0
abbrev pub listed : ℕ → List Triple → Option Triple
listed place [] = None
listed zero (t ∷ ts) = Some t
listed (suc place) (t ∷ ts) = listed place ts

-- 1 names the subject, 2 the predicate, 3 the object
abbrev pub part_of : ℕ → Option Triple → Option Term
part_of part None = None
part_of part (Some t) = cond (part == 1) (Some t.subject) (cond (part == 2) (Some t.predicate) (cond (part == 3) (Some t.object) None))

abbrev pub cell : {C : Type 0} → Looked C → ℕ → ℕ → Option Term
cell l place part = part_of part (listed place (triples l))

-- ---- told meaning: what makes with different causes have in common

-- a cause told by two numbers
pub record Mark : Type 0 where
  pub code : ℕ
  pub place : ℕ

abbrev pub Told : Type 0
Told = Looked Mark

abbrev pub told : {C : Type 0} → (C → Mark) → Looked C → Told
told mark (found ts) = found ts
told mark absent = absent
told mark (broken c) = broken (mark c)
