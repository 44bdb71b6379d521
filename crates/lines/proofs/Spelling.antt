-- A line says what it spells.
use Rattle.std.proofs.Common.{◌≡◌, ℕ, Bool, true, false, cond, ◌&&◌, eqb, leb, List, [], ◌∷◌, ◌++◌, length, take, take_while, drop, Some, None, codes, Option, sym, refl, ap, ◌∙◌, subst, ap₂, append_assoc, arith, eq-eqb, eqb-true}
use Rattle.std.specs.List.{list_all}
use Rattle.std.proofs.lemmas.Bool.{and_parts}
use Rattle.std.proofs.lemmas.List.{append-nil, take-append-drop, drop_at}
use Rattle.terms.specs.Bytes.{iri_byte, literal_byte}
use Rattle.terms.specs.Lawful.{is_iri, lawful_bytes}
use Rattle.terms.specs.Marks as mark
use Rattle.terms.specs.declared.kind.Kind.{Kind}
use Rattle.terms.specs.declared.kind.Kind.TheVariants.{Iri, Literal}
use Rattle.terms.proofs.Runs.{run_take, run_none, run_whole}
use Rattle.web.specs.Laws.{lawful_triple, lawful_iri, is_kind_iri}
use Rattle.web.specs.Meaning.{Triple}
use Rattle.lines.specs.Readings.{Said, nothing, opens, states, unreadable, says, and_then, behind, Cut, closed, marked, named, object_kind, ended, opening, triple, statement, or_opens, or_states}
use Rattle.lines.specs.Runs.{term_byte}
use Rattle.lines.specs.Parts.{some_same, then_inv, marked_inv, named_inv, statement_inv, statement_lawful, ended_inv}
use Rattle.lines.specs.Spelled.{in_marks, spelled, opening_line, SpellsNone, NothingWhenEmpty, OpensAsSpelled, StatesAsSpelled, UnreadableElse, AsSpelled, OnlySays}
use Rattle.lines.proofs.Fronted.{then_some}
use Rattle.lines.proofs.Sayings.{says_nil, says_cons, says_opening, says_statement, states_by, opens_at}

-- ---- a text

pub behind_inv : (text bs r : List ℕ) → behind text bs ≡ Some r → bs ≡ text ++ r
behind_inv [] bs r e = some_same e
behind_inv (c ∷ text) [] r e = let z : ◌≡◌ {A = ℕ} 0 1 = cc in absurd (omega arith)
behind_inv (c ∷ text) (b ∷ bs) r e = go (eqb b c) refl e (behind_inv text bs r)
  where
    go : (t : Bool) → eqb b c ≡ t → cond t (behind text bs) None ≡ Some r → (behind text bs ≡ Some r → bs ≡ text ++ r) → b ∷ bs ≡ c ∷ (text ++ r)
    go true q e h = ap₂ (λ x y. x ∷ y) (eqb-true b c q) (h e)
    go false q e h = let z : ◌≡◌ {A = ℕ} 0 1 = cc in absurd (omega arith)

pub behind_text : (text r : List ℕ) → behind text (text ++ r) ≡ Some r
behind_text [] r = refl
behind_text (c ∷ text) r = ap (λ t. cond t (behind text (text ++ r)) None) (eq-eqb c c refl) ∙ behind_text text r

-- ---- a term

lawful_every : (kind : Kind) (x : List ℕ) → lawful_bytes kind x ≡ true → list_all (term_byte kind) x ≡ true
lawful_every Iri x e = (and_parts (leb 1 (length x) && leb (length x) 128) (list_all iri_byte x) e).1
lawful_every Literal x e = (and_parts (leb (length x) 128) (list_all literal_byte x) e).1

-- no term holds its last mark
closer_stops : (kind : Kind) → term_byte kind (mark.closing kind) ≡ false
closer_stops Iri = refl
closer_stops Literal = refl

pub marked_spelled : (kind : Kind) (line : List ℕ) (c : Cut) → marked kind line ≡ Some c → (line ≡ in_marks kind c.bytes ++ c.rest) × (lawful_bytes kind c.bytes ≡ true)
marked_spelled kind line c e =
    let m = marked_inv kind line c e in
    let x = c.bytes in
    let taken : take (length x) m.inner ≡ x = ap (λ y. take (length y) m.inner) m.run ∙ run_take (term_byte kind) m.inner ∙ sym m.run in
    let split : m.inner ≡ x ++ (mark.closing kind ∷ c.rest) = sym (take-append-drop (length x) m.inner) ∙ ap₂ (λ y z. y ++ z) taken (behind_inv (mark.closing kind ∷ []) (drop (length x) m.inner) c.rest m.closes) in (
      behind_inv (mark.opening kind ∷ []) line m.inner m.opened ∙ ap (λ y. mark.opening kind ∷ y) (split ∙ sym (append_assoc x (mark.closing kind ∷ []) c.rest)),
      m.lawful,
    )

pub spelled_marked : (kind : Kind) (x r : List ℕ) → lawful_bytes kind x ≡ true → marked kind (in_marks kind x ++ r) ≡ Some (record { bytes = x; rest = r })
spelled_marked kind x r e =
    let inner : List ℕ = x ++ (mark.closing kind ∷ r) in
    let front-is : take_while (term_byte kind) inner ≡ x = run_whole (term_byte kind) x (mark.closing kind ∷ r) (lawful_every kind x e) (run_none (term_byte kind) (mark.closing kind) r (closer_stops kind)) in
    then_some (λ bs. closed kind (take_while (term_byte kind) bs) bs) inner
    (ap (behind (mark.opening kind ∷ [])) (ap (λ y. mark.opening kind ∷ y) (append_assoc x (mark.closing kind ∷ []) r)) ∙ behind_text (mark.opening kind ∷ []) inner)
    ∙ ap (λ y. closed kind y inner) front-is
    ∙ ap (λ t. cond t (and_then (behind (mark.closing kind ∷ []) (drop (length x) inner)) (λ q. Some (record { bytes = x; rest = q }))) None) e
    ∙ then_some (λ q. Some (record { bytes = x; rest = q })) r (ap (behind (mark.closing kind ∷ [])) (drop_at x (mark.closing kind ∷ r) (length x) refl) ∙ behind_text (mark.closing kind ∷ []) r)

-- ---- an IRI and a space

named_spelled : (line : List ℕ) (c : Cut) → named line ≡ Some c → (line ≡ in_marks Iri c.bytes ++ (codes " " ++ c.rest)) × (is_iri c.bytes ≡ true)
named_spelled line c e =
    let n = named_inv line c e in
    let m = marked_spelled Iri line (record { bytes = c.bytes; rest = n.rest }) n.iri in
    (m.0 ∙ ap (λ y. in_marks Iri c.bytes ++ y) (behind_inv (codes " ") n.rest c.rest n.space), m.1)

spelled_named : (x r : List ℕ) → is_iri x ≡ true → named (in_marks Iri x ++ (codes " " ++ r)) ≡ Some (record { bytes = x; rest = r })
spelled_named x r e =
    then_some (λ d. and_then (behind (codes " ") d.rest) (λ q. Some (record { bytes = d.bytes; rest = q }))) (record { bytes = x; rest = codes " " ++ r }) (spelled_marked Iri x (codes " " ++ r) e)
    ∙ then_some (λ q. Some (record { bytes = x; rest = q })) r (behind_text (codes " ") r)

-- ---- whole lines

nothing_when_empty : NothingWhenEmpty says
nothing_when_empty [] = ((λ e. refl), λ e. says_nil)
nothing_when_empty (b ∷ bs) = ((λ e. go (opening (b ∷ bs)) (statement (b ∷ bs)) (sym (says_cons b bs) ∙ e)), λ e. let z : ◌≡◌ {A = ℕ} 0 1 = cc in absurd (omega arith))
  where
    go : (o : Option (List ℕ)) (s : Option Triple) → or_opens o (or_states s) ≡ nothing → b ∷ bs ≡ []
    go None None e = let z : ◌≡◌ {A = ℕ} 0 1 = cc in absurd (omega arith)
    go None (Some t) e = let z : ◌≡◌ {A = ℕ} 0 1 = cc in absurd (omega arith)
    go (Some a) s e = let z : ◌≡◌ {A = ℕ} 0 1 = cc in absurd (omega arith)

pub opens_by : (l a : List ℕ) → says l ≡ opens a → opening l ≡ Some a
opens_by [] a e = let z = says_nil in let y : ◌≡◌ {A = ℕ} 0 1 = cc in absurd (omega arith)
opens_by (b ∷ bs) a e = go (opening (b ∷ bs)) (statement (b ∷ bs)) (sym (says_cons b bs) ∙ e)
  where
    go : (o : Option (List ℕ)) (s : Option Triple) → or_opens o (or_states s) ≡ opens a → o ≡ Some a
    go None None e = let y : ◌≡◌ {A = ℕ} 0 1 = cc in absurd (omega arith)
    go None (Some t) e = let y : ◌≡◌ {A = ℕ} 0 1 = cc in absurd (omega arith)
    go (Some x) s e = cc

opening_spelled : (line a : List ℕ) → opening line ≡ Some a → (line ≡ opening_line a) × (is_iri a ≡ true)
opening_spelled line a e =
    let i = then_inv (behind (codes "@page ") line) (λ r. and_then (marked Iri r) (λ c. and_then (ended c.rest) (λ d. Some c.bytes))) a e in
    let j = then_inv (marked Iri i.0) (λ c. and_then (ended c.rest) (λ d. Some c.bytes)) a i.2 in
    let k = ended_inv j.0.rest j.0.bytes a j.2 in
    let m = marked_spelled Iri i.0 j.0 j.1 in (
      behind_inv (codes "@page ") line i.0 i.1
          ∙ ap (λ y. codes "@page " ++ y) (m.0 ∙ ap₂ (λ x r. in_marks Iri x ++ r) (sym k.1) k.0 ∙ append-nil (in_marks Iri a)),
      ap is_iri k.1 ∙ m.1,
    )

spelled_opening : (a : List ℕ) → is_iri a ≡ true → opening (opening_line a) ≡ Some a
spelled_opening a e =
    then_some (λ r. and_then (marked Iri r) (λ c. and_then (ended c.rest) (λ d. Some c.bytes))) (in_marks Iri a) (behind_text (codes "@page ") (in_marks Iri a))
    ∙ then_some (λ c. and_then (ended c.rest) (λ d. Some c.bytes)) (record { bytes = a; rest = [] }) (ap (marked Iri) (sym (append-nil (in_marks Iri a))) ∙ spelled_marked Iri a [] e)

opens_as_spelled : OpensAsSpelled says
opens_as_spelled line a = ((λ e. opening_spelled line a (opens_by line a e)), λ s e. ap says s ∙ says_opening (opening_line a) a (spelled_opening a e))

statement_spelled : (line : List ℕ) (t : Triple) → statement line ≡ Some t → line ≡ spelled t
statement_spelled line t e =
    let i = statement_inv line t e in
    (named_spelled line i.s i.subject).0
    ∙ ap (λ y. in_marks Iri i.s.bytes ++ (codes " " ++ y))
    ((named_spelled i.s.rest i.p i.predicate).0
    ∙ ap (λ y. in_marks Iri i.p.bytes ++ (codes " " ++ y)) ((marked_spelled i.kind i.p.rest i.o i.object).0 ∙ ap (λ y. in_marks i.kind i.o.bytes ++ y) (behind_inv (codes " .") i.o.rest [] i.last)))
    ∙ ap spelled (sym i.same)

abbrev cut : List ℕ → List ℕ → Cut
cut x r = record { bytes = x; rest = r }

-- behind the predicate
spelled_object : (s p : List ℕ) (kind : Kind) (o : List ℕ) → lawful_bytes kind o ≡ true
    → and_then (marked (object_kind (in_marks kind o ++ codes " .")) (in_marks kind o ++ codes " ."))
    (λ c. and_then (behind (codes " .") c.rest) (λ r. and_then (ended r) (λ e. Some (triple s p (object_kind (in_marks kind o ++ codes " .")) c.bytes)))) ≡ Some (triple s p kind o)
spelled_object s p Iri o e = then_some (λ c. and_then (behind (codes " .") c.rest) (λ r. and_then (ended r) (λ e. Some (triple s p Iri c.bytes)))) (cut o (codes " .")) (spelled_marked Iri o (codes " .") e)
spelled_object s p Literal o e = then_some (λ c. and_then (behind (codes " .") c.rest) (λ r. and_then (ended r) (λ e. Some (triple s p Literal c.bytes)))) (cut o (codes " .")) (spelled_marked Literal o (codes " .") e)

spelled_statement : (s p : List ℕ) (kind : Kind) (o : List ℕ) → is_iri s ≡ true → is_iri p ≡ true → lawful_bytes kind o ≡ true → statement (spelled (triple s p kind o)) ≡ Some (triple s p kind o)
spelled_statement s p kind o es ep eo =
    let last : List ℕ = in_marks kind o ++ codes " ." in
    let middle : List ℕ = in_marks Iri p ++ (codes " " ++ last) in
    then_some
    (λ c. and_then (named c.rest) (λ d. and_then (marked (object_kind d.rest) d.rest) (λ f. and_then (behind (codes " .") f.rest) (λ r. and_then (ended r) (λ e. Some (triple c.bytes d.bytes (object_kind d.rest) f.bytes))))))
    (cut s middle) (spelled_named s middle es)
    ∙ then_some (λ d. and_then (marked (object_kind d.rest) d.rest) (λ f. and_then (behind (codes " .") f.rest) (λ r. and_then (ended r) (λ e. Some (triple s d.bytes (object_kind d.rest) f.bytes)))))
    (cut p last) (spelled_named p last ep)
    ∙ spelled_object s p kind o eo

iri_is : (kind : Kind) (x : List ℕ) → (is_kind_iri kind && is_iri x) ≡ true → (kind ≡ Iri) × (is_iri x ≡ true)
iri_is Iri x e = (refl, e)
iri_is Literal x e = let z : ◌≡◌ {A = ℕ} 0 1 = cc in absurd (omega arith)

-- a lawful triple's subject and predicate are IRIs
triple_is : (t : Triple) → t.subject.kind ≡ Iri → t.predicate.kind ≡ Iri → triple t.subject.bytes t.predicate.bytes t.object.kind t.object.bytes ≡ t
triple_is t e f = ap₂ (λ k m. whole k m) (sym e) (sym f)
  where
    whole : Kind → Kind → Triple
    whole k m = record { subject = record { kind = k; bytes = t.subject.bytes }; predicate = record { kind = m; bytes = t.predicate.bytes }; object = t.object }

spelled_back : (t : Triple) → lawful_triple t ≡ true → statement (spelled t) ≡ Some t
spelled_back t e =
    let all = and_parts (lawful_iri t.subject && lawful_iri t.predicate) (lawful_bytes t.object.kind t.object.bytes) e in
    let iris = and_parts (lawful_iri t.subject) (lawful_iri t.predicate) all.0 in
    let s = iri_is t.subject.kind t.subject.bytes iris.0 in
    let p = iri_is t.predicate.kind t.predicate.bytes iris.1 in
    subst (λ u. statement (spelled u) ≡ Some u) (triple_is t s.0 p.0) (spelled_statement t.subject.bytes t.predicate.bytes t.object.kind t.object.bytes s.1 p.1 all.1)

-- a statement begins with <, so it is no opening
spelled_no_opening : (t : Triple) → lawful_triple t ≡ true → opening (spelled t) ≡ None
spelled_no_opening t e = opens_at (spelled t) (go t.subject.kind)
  where
    go : (k : Kind) → mark.opening k ≡ 64 → ⊥
    go Iri f = omega arith
    go Literal f = omega arith

states_as_spelled : StatesAsSpelled says
states_as_spelled line t = (
  (λ e. (statement_spelled line t (states_by line t e), statement_lawful line t (states_by line t e))),
  λ s e. ap says s ∙ says_statement (spelled t) t (spelled_no_opening t e) (spelled_back t e),
)

unreadable_else : UnreadableElse says
unreadable_else line = (
  (λ e. record {
    some = λ n. let z = (nothing_when_empty line).1 n in cc;
    no_opening = λ a h n. let z = (opens_as_spelled line a).1 n h in cc;
    no_triple = λ t h n. let z = (states_as_spelled line t).1 n h in cc;
  }),
  λ u. go (says line) refl u,
)
  where
    go : (s : Said) → says line ≡ s → SpellsNone line → s ≡ unreadable
    go nothing e u = absurd (u.some ((nothing_when_empty line).0 e))
    go (opens a) e u = let o = (opens_as_spelled line a).0 e in absurd (u.no_opening a o.1 o.0)
    go (states t) e u = let o = (states_as_spelled line t).0 e in absurd (u.no_triple t o.1 o.0)
    go unreadable e u = refl

pub as_spelled : AsSpelled says
as_spelled = record { empty = nothing_when_empty; opening = opens_as_spelled; triple = states_as_spelled; other = unreadable_else }

pub only_says : OnlySays
only_says f h line = go (says line) refl
  where
    go : (s : Said) → says line ≡ s → f line ≡ s
    go nothing e = (h.empty line).1 ((nothing_when_empty line).0 e)
    go (opens a) e = let o = (opens_as_spelled line a).0 e in (h.opening line a).1 o.0 o.1
    go (states t) e = let o = (states_as_spelled line t).0 e in (h.triple line t).1 o.0 o.1
    go unreadable e = (h.other line).1 ((unreadable_else line).0 e)
