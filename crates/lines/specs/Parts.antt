-- What it takes for a line to be read as a statement: its parts, from the front on.
use Rattle.std.specs.Prelude.{◌≡◌, ℕ, Bool, true, false, cond, ◌&&◌, List, [], ◌∷◌, length, take_while, drop, Some, None, codes, Option, refl}
use Rattle.std.proofs.Common.{sym, ap, ◌∙◌, arith}
use Rattle.terms.specs.Lawful.{is_iri, lawful_bytes}
use Rattle.terms.specs.Marks as mark
use Rattle.terms.specs.declared.kind.Kind.{Kind}
use Rattle.terms.specs.declared.kind.Kind.TheVariants.{Iri}
use Rattle.web.specs.Laws.{lawful_triple}
use Rattle.web.specs.Meaning.{Triple}
use Rattle.lines.specs.Readings.{and_then, behind, Cut, closed, marked, named, object_kind, ended, triple, statement}
use Rattle.lines.specs.Runs.{term_byte}

pub some_same : {A : Type 0} {x y : A} → ◌≡◌ {A = Option A} (Some x) (Some y) → x ≡ y
some_same e = cc

pub then_inv : {A B : Type 0} (o : Option A) (f : A → Option B) (y : B) → and_then o f ≡ Some y → (x : A) × (o ≡ Some x) × (f x ≡ Some y)
then_inv None f y e = let z : ◌≡◌ {A = ℕ} 0 1 = cc in absurd (omega arith)
then_inv (Some x) f y e = (x, refl, e)

-- what it takes to read a term in its marks
pub record Marked (kind : Kind) (line : List ℕ) (c : Cut) : Type 0 where
  pub inner : List ℕ
  pub opened : behind (mark.opening kind ∷ []) line ≡ Some inner
  pub run : c.bytes ≡ take_while (term_byte kind) inner
  pub lawful : lawful_bytes kind c.bytes ≡ true
  pub closes : behind (mark.closing kind ∷ []) (drop (length c.bytes) inner) ≡ Some c.rest

closed_inv : (kind : Kind) (x bs : List ℕ) (c : Cut) → closed kind x bs ≡ Some c
    → (c.bytes ≡ x) × (lawful_bytes kind x ≡ true) × (behind (mark.closing kind ∷ []) (drop (length x) bs) ≡ Some c.rest)
closed_inv kind x bs c e = go (lawful_bytes kind x) e
  where
    go : (t : Bool) → cond t (and_then (behind (mark.closing kind ∷ []) (drop (length x) bs)) (λ r. Some (record { bytes = x; rest = r }))) None ≡ Some c
        → (c.bytes ≡ x) × (t ≡ true) × (behind (mark.closing kind ∷ []) (drop (length x) bs) ≡ Some c.rest)
    go true e =
        let i = then_inv (behind (mark.closing kind ∷ []) (drop (length x) bs)) (λ r. Some (record { bytes = x; rest = r })) c e in
        let same : record { bytes = x; rest = i.0 } ≡ c = some_same i.2 in
        (sym (ap (λ (d : Cut). d.bytes) same), refl, i.1 ∙ ap (λ (d : Cut). Some d.rest) same)
    go false e = let z : ◌≡◌ {A = ℕ} 0 1 = cc in absurd (omega arith)

pub marked_inv : (kind : Kind) (line : List ℕ) (c : Cut) → marked kind line ≡ Some c → Marked kind line c
marked_inv kind line c e =
    let i = then_inv (behind (mark.opening kind ∷ []) line) (λ bs. closed kind (take_while (term_byte kind) bs) bs) c e in
    let x = take_while (term_byte kind) i.0 in
    let j = closed_inv kind x i.0 c i.2 in
    record {
      inner = i.0;
      opened = i.1;
      run = j.0;
      lawful = ap (lawful_bytes kind) j.0 ∙ j.1;
      closes = ap (λ y. behind (mark.closing kind ∷ []) (drop (length y) i.0)) j.0 ∙ j.2;
    }

-- what it takes to read an IRI and a space
pub record Named (line : List ℕ) (c : Cut) : Type 0 where
  pub rest : List ℕ
  pub iri : marked Iri line ≡ Some (record { bytes = c.bytes; rest = rest })
  pub space : behind (codes " ") rest ≡ Some c.rest

pub named_inv : (line : List ℕ) (c : Cut) → named line ≡ Some c → Named line c
named_inv line c e =
    let i = then_inv (marked Iri line) (λ d. and_then (behind (codes " ") d.rest) (λ r. Some (record { bytes = d.bytes; rest = r }))) c e in
    let j = then_inv (behind (codes " ") i.0.rest) (λ r. Some (record { bytes = i.0.bytes; rest = r })) c i.2 in
    let same : record { bytes = i.0.bytes; rest = j.0 } ≡ c = some_same j.2 in
    record {
      rest = i.0.rest;
      iri = i.1 ∙ ap (λ (d : Cut). Some (record { bytes = d.bytes; rest = i.0.rest })) same;
      space = j.1 ∙ ap (λ (d : Cut). Some d.rest) same;
    }

-- what it takes to read a statement
pub record Parts (line : List ℕ) (t : Triple) : Type 0 where
  pub s : Cut
  pub p : Cut
  pub o : Cut
  pub kind : Kind
  pub subject : named line ≡ Some s
  pub predicate : named s.rest ≡ Some p
  pub kind_is : kind ≡ object_kind p.rest
  pub object : marked kind p.rest ≡ Some o
  pub last : behind (codes " .") o.rest ≡ Some []
  pub same : t ≡ triple s.bytes p.bytes kind o.bytes

pub ended_inv : {A : Type 0} (r : List ℕ) (x y : A) → and_then (ended r) (λ e. Some x) ≡ Some y → (r ≡ []) × (y ≡ x)
ended_inv [] x y e = (refl, sym (some_same e))
ended_inv (b ∷ r) x y e = let z : ◌≡◌ {A = ℕ} 0 1 = cc in absurd (omega arith)

pub statement_inv : (line : List ℕ) (t : Triple) → statement line ≡ Some t → Parts line t
statement_inv line t e =
    let i = then_inv (named line)
    (λ s. and_then (named s.rest) (λ p. and_then (marked (object_kind p.rest) p.rest) (λ o. and_then (behind (codes " .") o.rest) (λ r. and_then (ended r) (λ e. Some (triple s.bytes p.bytes (object_kind p.rest) o.bytes)))))) t e in
    let j = then_inv (named i.0.rest)
    (λ p. and_then (marked (object_kind p.rest) p.rest) (λ o. and_then (behind (codes " .") o.rest) (λ r. and_then (ended r) (λ e. Some (triple i.0.bytes p.bytes (object_kind p.rest) o.bytes))))) t i.2 in
    let k = then_inv (marked (object_kind j.0.rest) j.0.rest)
    (λ o. and_then (behind (codes " .") o.rest) (λ r. and_then (ended r) (λ e. Some (triple i.0.bytes j.0.bytes (object_kind j.0.rest) o.bytes)))) t j.2 in
    let l = then_inv (behind (codes " .") k.0.rest) (λ r. and_then (ended r) (λ e. Some (triple i.0.bytes j.0.bytes (object_kind j.0.rest) k.0.bytes))) t k.2 in
    let m = ended_inv l.0 (triple i.0.bytes j.0.bytes (object_kind j.0.rest) k.0.bytes) t l.2 in
    record {
      s = i.0;
      p = j.0;
      o = k.0;
      kind = object_kind j.0.rest;
      subject = i.1;
      predicate = j.1;
      kind_is = refl;
      object = k.1;
      last = l.1 ∙ ap Some m.0;
      same = m.1;
    }

-- ---- what is read is lawful

pub and_true : (a b : Bool) → a ≡ true → b ≡ true → (a && b) ≡ true
and_true true b e f = f
and_true false b e f = e

pub statement_lawful : (line : List ℕ) (t : Triple) → statement line ≡ Some t → lawful_triple t ≡ true
statement_lawful line t e =
    let i = statement_inv line t e in
    let s = (marked_inv Iri line (record { bytes = i.s.bytes; rest = (named_inv line i.s i.subject).rest }) (named_inv line i.s i.subject).iri).lawful in
    let p = (marked_inv Iri i.s.rest (record { bytes = i.p.bytes; rest = (named_inv i.s.rest i.p i.predicate).rest }) (named_inv i.s.rest i.p i.predicate).iri).lawful in
    let o = (marked_inv i.kind i.p.rest i.o i.object).lawful in
    ap lawful_triple i.same
    ∙ and_true (is_iri i.s.bytes && is_iri i.p.bytes) (lawful_bytes i.kind i.o.bytes) (and_true (is_iri i.s.bytes) (is_iri i.p.bytes) s p) o
