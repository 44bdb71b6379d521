-- When two Webs agree on an IRI. Webs of different makes are compared by what they tell, so a cause counts by its code and its place.
use Rattle.std.specs.Prelude.{◌≡◌, ℕ, List, Ok, Err, Option, Result}
use Rattle.web.specs.Answers.{answer, tells, leaves}
use Rattle.web.specs.Meaning.{Looked, found, absent, broken, cell, Mark, Told, told}
use Rattle.web.specs.Pairs.{or_told}

abbrev pub Alike : Told → Told → Type 0
Alike (found ts) (found us) = ts ≡ us
Alike (found ts) absent = ⊥
Alike (found ts) (broken n) = ⊥
Alike absent (found us) = ⊥
Alike absent absent = Unit {0}
Alike absent (broken n) = ⊥
Alike (broken m) (found us) = ⊥
Alike (broken m) absent = ⊥
Alike (broken m) (broken n) = (m.code ≡ n.code) × (m.place ≡ n.place)

-- what a Web tells at each IRI
abbrev pub Tells : Type 0
Tells = List ℕ → Told

-- the Web w, by its make's meaning and marks
abbrev pub tells_of : {W C : Type 0} → (C → Mark) → (W → List ℕ → Looked C) → W → Tells
tells_of mark meaning w iri = told mark (meaning w iri)

abbrev pub Agree : Tells → Tells → List ℕ → Type 0
Agree v w iri = Alike (v iri) (w iri)

-- ---- laws

abbrev pub AgreesWithItself : Type 0
AgreesWithItself = (v : Tells) (iri : List ℕ) → Agree v v iri

abbrev pub AgreesBothWays : Type 0
AgreesBothWays = (v w : Tells) (iri : List ℕ) → Agree v w iri → Agree w v iri

abbrev pub AgreesThrough : Type 0
AgreesThrough = (u v w : Tells) (iri : List ℕ) → Agree u v iri → Agree v w iri → Agree u w iri

-- to agree is to tell the same
abbrev pub AgreesByTelling : Type 0
AgreesByTelling = (v w : Tells) (iri : List ℕ) → Agree v w iri → v iri ≡ w iri

-- pairs of Webs that agree, agree
abbrev pub PairsAgree : Type 0
PairsAgree = (u v w x : Tells) (iri : List ℕ) → Agree u v iri → Agree w x iri → Agree (λ i. or_told (u i) (w i)) (λ i. or_told (v i) (x i)) iri

-- ---- what agreement comes to for whoever asks

-- what a lookup answers, a cause by its code and its place
abbrev pub answer_told : {C : Type 0} → (C → Mark) → Result (Option ℕ) C → Result (Option ℕ) Mark
answer_told mark (Ok length) = Ok length
answer_told mark (Err c) = Err (mark c)

-- where two makes hold these, their lookups answer alike, and so does every read, which also leaves its buffer alike
pub record AnswerAlike {C D : Type 0} (f : C → Mark) (g : D → Mark) (k : Looked C) (l : Looked D) : Type 0 where
  pub lookups : answer_told f (answer k) ≡ answer_told g (answer l)
  pub reads : (place part : ℕ) (buffer : List ℕ) → tells (cell k place part) buffer ≡ tells (cell l place part) buffer
  pub buffers : (place part : ℕ) (buffer : List ℕ) → leaves (cell k place part) buffer ≡ leaves (cell l place part) buffer
