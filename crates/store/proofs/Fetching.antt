-- Triples that are read from a Web and enter one after the other.
use Rattle.std.proofs.Common.{◌≡◌, ℕ, zero, suc, ◌+◌, ◌<◌, ◌≤◌, Bool, true, false, cond, ◌&&◌, leb, List, [], ◌∷◌, ◌++◌, map, length, get_or, take, drop, min, is_some, Some, None, Ok, Err, IsOk, OnOk, Option, Result, sym, refl, ap, ◌∙◌, subst, ap₂, append_assoc, append-nil, arith, length-append, take-append-drop, length-take, take_all, take_at, leb-false, leb-true}
use lib.ListN.{length-map}
use Rattle.terms.specs.Terms.{Term}
use Rattle.terms.specs.declared.kind.Kind.{Kind}
use Rattle.terms.specs.declared.kind.Kind.TheVariants.{Iri, Literal}
use Rattle.terms.specs.Lawful.{is_iri, lawful_bytes, lawful as lawful_term}
use Rattle.lexicon.specs.Numbering.{number_of, enter, enter_all, within}
use Rattle.lexicon.specs.Parts.{no_term}
use Rattle.lexicon.proofs.Numbers.{and_left, and_right, enter_all_append, enter_all_front, enter_front, within_front, number_entered, number_stays, number_front, not_true}
use Rattle.shelf.specs.declared.items.Listed.{Listed}
use Rattle.web.specs.Laws.{Lawful, is_kind_iri, lawful_iri, lawful_triple, lawful_triples}
use Rattle.web.specs.Answers.{answer}
use Rattle.web.specs.Meaning.{Triple, Looked, found, absent, broken, cell, listed, part_of, told, triples, Mark as Cause}
use Rattle.std.proofs.lemmas.List.{take_more, map_push}
use Rattle.shelf.specs.declared.items.Mark.TheVariants as Mark
use Rattle.store.specs.declared.record.Entry.{Entry}
use Rattle.store.specs.State.{State, parts_of, fits, noted, shelved, marked, listed as by_number}
use Rattle.store.specs.Looking.{Enters, Gathering, Fetched}
use Rattle.store.proofs.Keeping.{fits_is, is_fit}
use Rattle.store.specs.Gathered.{Gathered}
use Rattle.store.proofs.Asking.{some_in, none_in}

-- ---- the terms of one triple

abbrev pub no_triple : Triple
no_triple = record { subject = no_term; predicate = no_term; object = no_term }

listed_at : (xs : List Triple) (i : ℕ) → i < length xs → listed i xs ≡ Some (get_or xs i no_triple)
listed_at [] i h = absurd (omega arith)
listed_at (x ∷ xs) zero h = refl
listed_at (x ∷ xs) (suc i) h = listed_at xs i (omega arith)

cell_at : {C : Type 0} (l : Looked C) (xs : List Triple) (i part : ℕ) → l ≡ found xs → i < length xs → cell l i part ≡ part_of part (Some (get_or xs i no_triple))
cell_at {C} l xs i part e h = ap (λ (k : Looked C). cell k i part) e ∙ ap (part_of part) (listed_at xs i h)

lawful_at : (xs : List Triple) (i : ℕ) → i < length xs → lawful_triples xs ≡ true → lawful_triple (get_or xs i no_triple) ≡ true
lawful_at [] i h e = absurd (omega arith)
lawful_at (x ∷ xs) zero h e = and_left (lawful_triple x) (lawful_triples xs) e
lawful_at (x ∷ xs) (suc i) h e = lawful_at xs i (omega arith) (and_right (lawful_triple x) (lawful_triples xs) e)

short_iri : (x : List ℕ) → is_iri x ≡ true → length x ≤ 128
short_iri x e = leb-true (length x) 128 (and_right (leb 1 (length x)) (leb (length x) 128) (and_left (leb 1 (length x) && leb (length x) 128) _ e))

short_bytes : (k : Kind) (x : List ℕ) → lawful_bytes k x ≡ true → length x ≤ 128
short_bytes Iri x e = short_iri x e
short_bytes Literal x e = leb-true (length x) 128 (and_left (leb (length x) 128) _ e)

-- what can be read of a lawful list fits into a buffer of 128 bytes
pub record Short (x : Triple) : Type 0 where
  pub subject : length x.subject.bytes ≤ 128
  pub predicate : length x.predicate.bytes ≤ 128
  pub object : length x.object.bytes ≤ 128

short_at : (xs : List Triple) (i : ℕ) → i < length xs → lawful_triples xs ≡ true → Short (get_or xs i no_triple)
short_at xs i h e =
    let x = get_or xs i no_triple in
    let l = lawful_at xs i h e in
    let both = lawful_iri x.subject && lawful_iri x.predicate in
    let r = and_left both (lawful_term x.object) l in
    record {
      subject = short_iri x.subject.bytes (and_right (is_kind_iri x.subject.kind) _ (and_left (lawful_iri x.subject) (lawful_iri x.predicate) r));
      predicate = short_iri x.predicate.bytes (and_right (is_kind_iri x.predicate.kind) _ (and_right (lawful_iri x.subject) (lawful_iri x.predicate) r));
      object = short_bytes x.object.kind x.object.bytes (and_right both (lawful_term x.object) l);
    }

-- what a Web gives of a triple that it lists
pub record Reads {C : Type 0} (l : Looked C) (xs : List Triple) (i : ℕ) : Type 0 where
  pub subject : cell l i 1 ≡ Some (get_or xs i no_triple).subject
  pub predicate : cell l i 2 ≡ Some (get_or xs i no_triple).predicate
  pub object : cell l i 3 ≡ Some (get_or xs i no_triple).object
  pub short : Short (get_or xs i no_triple)

pub reads : {C : Type 0} (l : Looked C) (xs : List Triple) (i : ℕ) → lawful_triples (triples l) ≡ true → l ≡ found xs → i < length xs → Reads l xs i
reads {C} l xs i w e h = record {
  subject = cell_at l xs i 1 e h;
  predicate = cell_at l xs i 2 e h;
  object = cell_at l xs i 3 e h;
  short = short_at xs i h (ap (λ (k : Looked C). lawful_triples (triples k)) (sym e) ∙ w);
}

-- ---- lists of triples

parts_append : (xs ys : List Triple) → parts_of (xs ++ ys) ≡ parts_of xs ++ parts_of ys
parts_append [] ys = refl
parts_append (x ∷ xs) ys = ap (λ (l : List Term). x.subject ∷ x.predicate ∷ x.object ∷ l) (parts_append xs ys)

-- the table once the terms of one triple more have entered
unfoldable pub three : List Term → Triple → List Term
three ts x = enter (enter (enter ts x.subject) x.predicate) x.object

pub enter_three : (ts : List Term) (xs : List Triple) (i : ℕ) (us : List Term) → i < length xs → us ≡ enter_all ts (parts_of (take i xs)) → enter_all ts (parts_of (take (i + 1) xs)) ≡ three us (get_or xs i no_triple)
unfolding three
enter_three ts xs i us h e =
    let x = get_or xs i no_triple in
    ap (λ (l : List Triple). enter_all ts (parts_of l)) (take_more xs i no_triple h)
    ∙ ap (enter_all ts) (parts_append (take i xs) (x ∷ []))
    ∙ enter_all_append ts (parts_of (take i xs)) (x.subject ∷ x.predicate ∷ x.object ∷ [])
    ∙ ap (λ (l : List Term). enter (enter (enter l x.subject) x.predicate) x.object) (sym e)

-- a table on the way is over a limit
pub stop_at : (ts : List Term) (xs : List Triple) (i : ℕ) (us p : List Term) → i < length xs → us ≡ enter_all ts (parts_of (take i xs)) → (y : List Term) × (three us (get_or xs i no_triple) ≡ p ++ y) → within p ≡ false → within (enter_all ts (parts_of xs)) ≡ false
stop_at ts xs i us p h e f w =
    let whole : enter_all ts (parts_of xs) ≡ enter_all (three us (get_or xs i no_triple)) (parts_of (drop (i + 1) xs)) =
    ap (λ (l : List Triple). enter_all ts (parts_of l)) (sym (take-append-drop (i + 1) xs))
    ∙ ap (enter_all ts) (parts_append (take (i + 1) xs) (drop (i + 1) xs))
    ∙ enter_all_append ts (parts_of (take (i + 1) xs)) (parts_of (drop (i + 1) xs))
    ∙ ap (λ (l : List Term). enter_all l (parts_of (drop (i + 1) xs))) (enter_three ts xs i us h e) in
    let more = enter_all_front (three us (get_or xs i no_triple)) (parts_of (drop (i + 1) xs)) in
    let all : enter_all ts (parts_of xs) ≡ p ++ (f.0 ++ more.0) = whole ∙ more.1 ∙ ap (λ (l : List Term). l ++ more.0) f.1 ∙ append_assoc p f.0 more.0 in
    not_true (within (enter_all ts (parts_of xs))) (λ t.
    let z : true ≡ false = sym (within_front p (f.0 ++ more.0) (ap within (sym all) ∙ t)) ∙ w in
    let y : ◌≡◌ {A = ℕ} 0 1 = cc in omega (arith, y))

front_one : (us : List Term) (x : Triple) → (y : List Term) × (three us x ≡ enter us x.subject ++ y)
unfolding three
front_one us x = enter_all_front (enter us x.subject) (x.predicate ∷ x.object ∷ [])

front_two : (us : List Term) (x : Triple) → (y : List Term) × (three us x ≡ enter (enter us x.subject) x.predicate ++ y)
unfolding three
front_two us x = enter_all_front (enter (enter us x.subject) x.predicate) (x.object ∷ [])

front_three : (us : List Term) (x : Triple) → (y : List Term) × (three us x ≡ enter (enter (enter us x.subject) x.predicate) x.object ++ y)
unfolding three
front_three us x = ([], sym (append-nil (three us x)))

-- ---- numbers of listed triples

unfoldable Known : List Term → List Triple → Type 0
Known ts [] = Unit {0}
Known ts (x ∷ xs) = (0 < number_of ts x.subject) × (0 < number_of ts x.predicate) × (0 < number_of ts x.object) × Known ts xs

all_known : (ts : List Term) (xs : List Triple) → Known (enter_all ts (parts_of xs)) xs
unfolding Known
all_known ts [] = tt
all_known ts (x ∷ xs) =
    let t1 = enter ts x.subject in
    let t2 = enter t1 x.predicate in
    let t3 = enter t2 x.object in
    let a = number_entered ts x.subject in
    let b = number_entered t1 x.predicate in
    let d = number_entered t2 x.object in (
      omega (arith, a, number_stays t1 (x.predicate ∷ x.object ∷ parts_of xs) x.subject a),
      omega (arith, b, number_stays t2 (x.object ∷ parts_of xs) x.predicate b),
      omega (arith, d, number_stays t3 (parts_of xs) x.object d),
      all_known t3 xs,
    )

listed_front : (ts y : List Term) (xs : List Triple) → Known ts xs → map (by_number (ts ++ y)) xs ≡ map (by_number ts) xs
unfolding Known
listed_front ts y [] k = refl
listed_front ts y (x ∷ xs) k =
    let a = number_front ts y x.subject k.0 in
    let b = number_front ts y x.predicate k.1 in
    let d = number_front ts y x.object k.2 in
    let r = listed_front ts y xs k.3 in
    (λ i. record { subject = a i; predicate = b i; object = d i } ∷ r i)

-- ---- the loop

-- what enters now, if all three do
pub record Three (us : List Term) (x : Triple) (a b d : ℕ) (vs : List Term) : Type 0 where
  pub terms : vs ≡ three us x
  pub is : ◌≡◌ {A = Listed} (record { subject = a; predicate = b; object = d }) (by_number (three us x) x)

some_number : (m n : ℕ) → ◌≡◌ {A = Option ℕ} (Some m) (Some n) → m ≡ n
some_number m n e = cc

pub enters_some : (t : Term) (ts us : List Term) (n : ℕ) → Enters t ts (Some n) us → (us ≡ enter ts t) × (n ≡ number_of (enter ts t) t)
enters_some t ts us n h = let r = some_in ts t (Some n) us refl h.answer h.after in (r.0, some_number n _ r.1)

pub three_entered : (us u1 u2 u3 : List Term) (x : Triple) (a b d : ℕ) → Enters x.subject us (Some a) u1 → Enters x.predicate u1 (Some b) u2 → Enters x.object u2 (Some d) u3 → Three us x a b d u3
unfolding three
three_entered us u1 u2 u3 x a b d ea eb ed =
    let t1 = enter us x.subject in
    let t2 = enter t1 x.predicate in
    let t3 = enter t2 x.object in
    let p = enters_some x.subject us u1 a ea in
    let q = enters_some x.predicate u1 u2 b eb in
    let r = enters_some x.object u2 u3 d ed in
    let e2 : u2 ≡ t2 = q.0 ∙ ap (λ (l : List Term). enter l x.predicate) p.0 in
    let ha = number_entered us x.subject in
    let hb = number_entered t1 x.predicate in
    let na : a ≡ number_of t3 x.subject = p.1 ∙ sym (number_stays t1 (x.predicate ∷ x.object ∷ []) x.subject ha) in
    let nb : b ≡ number_of t3 x.predicate = q.1 ∙ ap (λ (l : List Term). number_of (enter l x.predicate) x.predicate) p.0 ∙ sym (number_stays t2 (x.object ∷ []) x.predicate hb) in
    let nd : d ≡ number_of t3 x.object = r.1 ∙ ap (λ (l : List Term). number_of (enter l x.object) x.object) e2 in
    record { terms = r.0 ∙ ap (λ (l : List Term). enter l x.object) e2; is = (λ i. record { subject = na i; predicate = nb i; object = nd i }) }

pub gathered_next : (ts : List Term) (ls : List Listed) (xs : List Triple) (i : ℕ) (us vs : List Term) (ms os : List Listed) (a b d : ℕ) → i < length xs → Gathered ts ls (take i xs) us ms → Three us (get_or xs i no_triple) a b d vs → os ≡ ms ++ record { subject = a; predicate = b; object = d } ∷ [] → Gathered ts ls (take (i + 1) xs) vs os
gathered_next ts ls xs i us vs ms os a b d h g t e =
    let x = get_or xs i no_triple in
    let fr = front_one us x in
    let ef = enter_front us x.subject in
    let grown : vs ≡ us ++ (ef.0 ++ fr.0) = t.terms ∙ fr.1 ∙ ap (λ (l : List Term). l ++ fr.0) ef.1 ∙ append_assoc us ef.0 fr.0 in
    let known : Known us (take i xs) = subst (λ (l : List Term). Known l (take i xs)) (sym g.terms) (all_known ts (take i xs)) in
    let old : map (by_number vs) (take i xs) ≡ map (by_number us) (take i xs) = ap (λ (l : List Term). map (by_number l) (take i xs)) grown ∙ listed_front us (ef.0 ++ fr.0) (take i xs) known in
    let new : ◌≡◌ {A = Listed} (record { subject = a; predicate = b; object = d }) (by_number vs x) = t.is ∙ ap (λ (l : List Term). by_number l x) (sym t.terms) in
    record {
      terms = t.terms ∙ sym (enter_three ts xs i us h g.terms);
      triples = e ∙ ap₂ (λ (l : List Listed) (y : Listed). l ++ y ∷ []) (g.triples ∙ ap (λ (l : List Listed). ls ++ l) (sym old)) new
          ∙ append_assoc ls (map (by_number vs) (take i xs)) (by_number vs x ∷ [])
          ∙ ap (λ (l : List Listed). ls ++ l) (sym (ap (map (by_number vs)) (take_more xs i no_triple h) ∙ map_push (by_number vs) (take i xs) x));
    }

stopped : (ts : List Term) (ls : List Listed) (xs : List Triple) (i : ℕ) (us p : List Term) (ms : List Listed) → i < length xs → Gathered ts ls (take i xs) us ms → (y : List Term) × (three us (get_or xs i no_triple) ≡ p ++ y) → within p ≡ false → (vs : List Term) → (z : List Term) × (vs ≡ us ++ z) → Gathering ts ls xs false vs ms
stopped ts ls xs i us p ms h g f w vs grew =
    let pre = enter_all_front ts (parts_of (take i xs)) in (
      stop_at ts xs i us p h g.terms f w,
      (pre.0 ++ grew.0, grew.1 ∙ ap (λ (l : List Term). l ++ grew.0) (g.terms ∙ pre.1) ∙ append_assoc ts pre.0 grew.0),
      (map (by_number us) (take i xs), g.triples),
    )

enters_none : (t : Term) (ts us : List Term) → Enters t ts None us → (within (enter ts t) ≡ false) × (us ≡ ts)
enters_none t ts us h = none_in ts t None us refl h.answer h.after

pub stops_one : (ts : List Term) (ls : List Listed) (xs : List Triple) (i : ℕ) (us u1 : List Term) (ms : List Listed) → i < length xs → Gathered ts ls (take i xs) us ms → Enters (get_or xs i no_triple).subject us None u1 → Gathering ts ls xs false u1 ms
stops_one ts ls xs i us u1 ms h g e1 =
    let x = get_or xs i no_triple in
    let r = enters_none x.subject us u1 e1 in
    stopped ts ls xs i us (enter us x.subject) ms h g (front_one us x) r.0 u1 ([], r.1 ∙ sym (append-nil us))

pub stops_two : (ts : List Term) (ls : List Listed) (xs : List Triple) (i : ℕ) (us u1 u2 : List Term) (ms : List Listed) (a : ℕ) → i < length xs → Gathered ts ls (take i xs) us ms → Enters (get_or xs i no_triple).subject us (Some a) u1 → Enters (get_or xs i no_triple).predicate u1 None u2 → Gathering ts ls xs false u2 ms
stops_two ts ls xs i us u1 u2 ms a h g e1 e2 =
    let x = get_or xs i no_triple in
    let p = enters_some x.subject us u1 a e1 in
    let r = enters_none x.predicate u1 u2 e2 in
    let f = enter_front us x.subject in
    stopped ts ls xs i us (enter (enter us x.subject) x.predicate) ms h g (front_two us x) (ap (λ (l : List Term). within (enter l x.predicate)) (sym p.0) ∙ r.0) u2 (f.0, r.1 ∙ p.0 ∙ f.1)

pub stops_three : (ts : List Term) (ls : List Listed) (xs : List Triple) (i : ℕ) (us u1 u2 u3 : List Term) (ms : List Listed) (a b : ℕ) → i < length xs → Gathered ts ls (take i xs) us ms → Enters (get_or xs i no_triple).subject us (Some a) u1 → Enters (get_or xs i no_triple).predicate u1 (Some b) u2 → Enters (get_or xs i no_triple).object u2 None u3 → Gathering ts ls xs false u3 ms
stops_three ts ls xs i us u1 u2 u3 ms a b h g e1 e2 e3 =
    let x = get_or xs i no_triple in
    let p = enters_some x.subject us u1 a e1 in
    let q = enters_some x.predicate u1 u2 b e2 in
    let r = enters_none x.object u2 u3 e3 in
    let two : u2 ≡ enter (enter us x.subject) x.predicate = q.0 ∙ ap (λ (l : List Term). enter l x.predicate) p.0 in
    let f = enter_all_front us (x.subject ∷ x.predicate ∷ []) in
    stopped ts ls xs i us (enter (enter (enter us x.subject) x.predicate) x.object) ms h g (front_three us x) (ap (λ (l : List Term). within (enter l x.object)) (sym two) ∙ r.0) u3 (f.0, r.1 ∙ two ∙ f.1)

pub gathered_all : (ts : List Term) (ls : List Listed) (xs : List Triple) (i : ℕ) (us : List Term) (ms : List Listed) → length xs ≤ i → within us ≡ true → Gathered ts ls (take i xs) us ms → Gathering ts ls xs true us ms
gathered_all ts ls xs i us ms h w g =
    let all = take_all i xs h in
    let e = g.terms ∙ ap (λ (l : List Triple). enter_all ts (parts_of l)) all in
    (ap within (sym e) ∙ w, e, g.triples ∙ ap (λ (l : List Triple). ls ++ map (by_number us) l) all)

-- no term more was to be had
pub gathering_none : (ts : List Term) (ls : List Listed) (xs : List Triple) (us : List Term) (ms : List Listed) (r : Option (Unit {0})) → r ≡ None → Gathering ts ls xs false us ms → Gathering ts ls xs (is_some r) us ms
gathering_none ts ls xs us ms r e g = subst (λ (o : Option (Unit {0})). Gathering ts ls xs (is_some o) us ms) (sym e) g

-- ---- what a lookup answers

pub found_so : {C : Type 0} (l : Looked C) (o : Option ℕ) (n : ℕ) → o ≡ Some n → Ok o ≡ answer l → (xs : List Triple) × (l ≡ found xs) × (n ≡ length xs)
found_so (found xs) o n d e = (xs, refl, cc)
found_so absent o n d e = let z : ◌≡◌ {A = ℕ} 0 1 = cc in absurd (omega arith)
found_so (broken c) o n d e = let z : ◌≡◌ {A = ℕ} 0 1 = cc in absurd (omega arith)

-- ---- what is kept of it

pub fetched_found : {C : Type 0} (mk : C → Cause) (l : Looked C) (xs : List Triple) (n : ℕ) (ts us : List Term) (ls ms : List Listed) → l ≡ found xs → n ≡ length xs → length ls + n ≤ 4096 → Gathering ts ls xs true us ms → Fetched (told mk l) ts ls (Mark.Found n) us ms
fetched_found {C} mk l xs n ts us ls ms e en h g = record {
  kept = λ k es.
      let s : State = record { terms = ts; entries = es; triples = ls } in
      let fit = is_fit s xs (omega (arith, en, h)) g.0 in
      let all = g.2 ∙ ap (λ (t : List Term). ls ++ map (by_number t) xs) g.1 in
      (λ i. record { terms = g.1 i; entries = es ++ record { iri = k; mark = Mark.Found (en i) } ∷ []; triples = all i })
      ∙ sym (ap (λ b. cond b (shelved xs k s) (marked Mark.Unfit k s)) fit) ∙ sym (ap (λ (o : Looked C). noted (told mk o) k s) e);
  grows = omega (arith, ap length g.2, length-append ls (map (by_number us) xs), length-map xs (by_number us), en);
  few = λ f. omega (arith, h, ap length g.2, length-append ls (map (by_number us) xs), length-map xs (by_number us), en);
}

unfit : {C : Type 0} (mk : C → Cause) (l : Looked C) (xs : List Triple) (ts : List Term) (ls : List Listed) → l ≡ found xs → ((es : List Entry) → fits (record { terms = ts; entries = es; triples = ls }) xs ≡ false) → Fetched (told mk l) ts ls Mark.Unfit ts ls
unfit {C} mk l xs ts ls e w = record {
  kept = λ k es.
      let s : State = record { terms = ts; entries = es; triples = ls } in
      sym (ap (λ b. cond b (shelved xs k s) (marked Mark.Unfit k s)) (w es)) ∙ sym (ap (λ (o : Looked C). noted (told mk o) k s) e);
  grows = omega arith;
  few = λ f. f;
}

pub fetched_long : {C : Type 0} (mk : C → Cause) (l : Looked C) (xs : List Triple) (n : ℕ) (ts : List Term) (ls : List Listed) → l ≡ found xs → n ≡ length xs → 4096 < length ls + n → Fetched (told mk l) ts ls Mark.Unfit ts ls
fetched_long mk l xs n ts ls e en h = unfit mk l xs ts ls e (λ es. not_true (fits (record { terms = ts; entries = es; triples = ls }) xs) (λ f. omega (arith, (fits_is _ xs f).0, en, h)))

pub fetched_back : {C : Type 0} (mk : C → Cause) (l : Looked C) (xs : List Triple) (ts us vs : List Term) (ls ms os : List Listed) (m n : ℕ) → l ≡ found xs → Gathering ts ls xs false us ms → m ≡ length ts → vs ≡ take m us → n ≡ length ls → os ≡ take n ms → Fetched (told mk l) ts ls Mark.Unfit vs os
fetched_back {C} mk l xs ts us vs ls ms os m n e g em ev en eo =
    let v : vs ≡ ts = ev ∙ ap (take m) g.1.1 ∙ take_at ts g.1.0 m (sym em) in
    let o : os ≡ ls = eo ∙ ap (take n) g.2.1 ∙ take_at ls g.2.0 n (sym en) in
    let w : Fetched (told mk l) ts ls Mark.Unfit ts ls = unfit mk l xs ts ls e (λ es. not_true (fits (record { terms = ts; entries = es; triples = ls }) xs) (λ f.
    let z : true ≡ false = sym (fits_is _ xs f).1 ∙ g.0 in
    let y : ◌≡◌ {A = ℕ} 0 1 = cc in omega (arith, y))) in
    subst (λ (q : List Term). Fetched (told mk l) ts ls Mark.Unfit q os) (sym v) (subst (λ (q : List Listed). Fetched (told mk l) ts ls Mark.Unfit ts q) (sym o) w)

-- ---- the address

-- all bytes, or the first 129
pub copied : {E : Type 0} (x : List ℕ) (n : ℕ) (none copy : List ℕ) (r : Result (Unit {0}) E) → n ≡ min (length x) 129 → none ≡ [] → (length none + length (take n x) ≤ 129 → IsOk r) → OnOk r (copy ≡ none ++ take n x) → copy ≡ take 129 x
copied x n none copy (Err e) size empty fits made = let ok = fits (omega (arith, size, length-take n x, ap length empty)) in absurd (cc)
copied x n none copy (Ok u) size empty fits made = made ∙ ap (λ l. l ++ take n x) empty ∙ go (leb (length x) 129) refl
  where
    go : (b : Bool) → leb (length x) 129 ≡ b → take n x ≡ take 129 x
    go true t = let h = leb-true _ _ t in take_all n x (omega (arith, size, h)) ∙ sym (take_all 129 x h)
    go false t = let h : n ≡ 129 = omega (arith, size, leb-false _ _ t) in ap (λ k. take k x) h

-- 129 bytes or more are no IRI, and no Web has anything there
long_absent : {C : Type 0} (meaning : List ℕ → Looked C) → ((iri : List ℕ) → Lawful iri (meaning iri)) → (x : List ℕ) → 128 < length x → meaning x ≡ absent
long_absent meaning lawful x h = (lawful x).no_iri (not_true (is_iri x) (λ e. omega (arith, short_iri x e, h)))

pub address_means : {C : Type 0} (meaning : List ℕ → Looked C) → ((iri : List ℕ) → Lawful iri (meaning iri)) → (x : List ℕ) → meaning (take 129 x) ≡ meaning x
address_means {C} meaning lawful x = go (leb (length x) 129) refl
  where
    go : (b : Bool) → leb (length x) 129 ≡ b → meaning (take 129 x) ≡ meaning x
    go true e = ap meaning (take_all 129 x (leb-true _ _ e))
    go false e =
        let h = leb-false (length x) 129 e in
        long_absent meaning lawful (take 129 x) (omega (arith, length-take 129 x, h)) ∙ sym (long_absent meaning lawful x (omega (arith, h)))
