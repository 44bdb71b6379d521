-- What is recorded of a Web stays so when terms enter and when a lookup is noted.
use Rattle.std.proofs.Common.{◌≡◌, ℕ, zero, suc, ◌+◌, ◌<◌, ◌≤◌, Bool, true, false, cond, ◌&&◌, ◌⊎◌, List, [], ◌∷◌, ◌++◌, map, length, take, drop, Some, None, Option, sym, refl, ap, ◌∙◌, subst, ap₂, inl, inr, append-nil, arith, length-append, take_all, drop_at}
use lib.ListN.{length-map}
use lib.Seq.{take-append-le}
use Rattle.std.proofs.lemmas.Bool.{and_parts}
use Rattle.terms.specs.declared.kind.Kind.{Kind}
use Rattle.terms.specs.declared.kind.Kind.TheVariants.{Iri, Literal}
use Rattle.terms.specs.Lawful.{is_iri, lawful_bytes, lawful as lawful_term}
use Rattle.terms.specs.Terms.{Term}
use Rattle.semantics.specs.Terms.{In}
use Rattle.semantics.proofs.Lists.{clash, in_either}
use Rattle.walks.specs.Crowds.{Apart}
use Rattle.web.specs.Agreement.{Tells, Alike}
use Rattle.web.specs.Laws.{is_kind_iri, lawful_iri, lawful_triple, lawful_triples}
use Rattle.web.specs.Meaning.{Triple, Told, found, absent, broken, triples as triples_told, told}
use Rattle.lexicon.specs.Numbering.{term, number_of, term_at, enter, enter_all}
use Rattle.lexicon.proofs.Numbers.{Once, number_front, number_entered, number_stays, enter_new, enter_there, enter_all_front, once_all}
use Rattle.shelf.specs.declared.items.Listed.{Listed}
use Rattle.shelf.specs.declared.items.Mark.{Mark}
use Rattle.shelf.specs.declared.items.Mark.TheVariants.{Found, Absent, Broken, Unfit}
use Rattle.shelf.specs.declared.items.Noted.{Noted}
use Rattle.shelf.specs.Contexts.{size}
use Rattle.store.specs.declared.record.Entry.{Entry}
use Rattle.store.specs.State.{State, fits, fitting, parts_of, listed, noted, marked, shelved, placed, total}
use Rattle.store.specs.Looking.{address_in, address_of, full, looked_at}
use Rattle.recorded.specs.Recorded.{Known, Says, kept_for, Holds, iris_of, Recorded, FreshIsRecorded, EnteringKeepsIt, TellingIsLawful, NotingKeepsIt, LookingKeepsIt, RecordIsOfItsAddresses}

-- ---- terms by number

-- a number with an address is that of an IRI
pub address_term : (o : Option Term) (x : List ℕ) → address_of o ≡ Some x → o ≡ Some (term Iri x)
address_term None x e = absurd (cc)
address_term (Some t) x e = go t.kind t.bytes e
  where
    go : (k : Kind) (b : List ℕ) → address_in k b ≡ Some x → ◌≡◌ {A = Option Term} (Some (term k b)) (Some (term Iri x))
    go Iri b e = ap (λ z. Some (term Iri z)) (cc)
    go Literal b e = absurd (cc)

at_more : (ts more : List Term) (n : ℕ) (t : Term) → term_at ts n ≡ Some t → term_at (ts ++ more) n ≡ Some t
at_more [] more n t e = absurd (cc)
at_more (x ∷ ts) more zero t e = absurd (cc)
at_more (x ∷ ts) more (suc zero) t e = e
at_more (x ∷ ts) more (suc (suc n)) t e = at_more ts more (suc n) t e

address_more : (ts more : List Term) (n : ℕ) (x : List ℕ) → address_of (term_at ts n) ≡ Some x → address_of (term_at (ts ++ more) n) ≡ Some x
address_more ts more n x e = ap address_of (at_more ts more n (term Iri x) (address_term (term_at ts n) x e))

known_more : (ts more us : List Term) → Known ts us → Known (ts ++ more) us
known_more ts more us h u i = subst (λ k. 0 < k) (sym (number_front ts more u (h u i))) (h u i)

map_more : (ts more : List Term) (xs : List Triple) → Known ts (parts_of xs) → map (listed (ts ++ more)) xs ≡ map (listed ts) xs
map_more ts more [] h = refl
map_more ts more (x ∷ xs) h =
    let s = number_front ts more x.subject (h x.subject (inl refl)) in
    let p = number_front ts more x.predicate (h x.predicate (inr (inl refl))) in
    let o = number_front ts more x.object (h x.object (inr (inr (inl refl)))) in
    let rest = map_more ts more xs (λ u j. h u (inr (inr (inr j)))) in
    (λ i. record { subject = s i; predicate = p i; object = o i } ∷ rest i)

-- what has entered has a number
pub known_all : (ts xs : List Term) → Known (enter_all ts xs) xs
known_all ts [] u i = elim i [ ]
known_all ts (x ∷ xs) u (inl e) =
    subst (λ z. 0 < number_of (enter_all (enter ts x) xs) z) (sym e) (omega (arith, number_stays (enter ts x) xs x (number_entered ts x), number_entered ts x))
known_all ts (x ∷ xs) u (inr j) = known_all (enter ts x) xs u j

-- ---- lawful terms

abbrev AllLawful : List Term → Type 0
AllLawful ts = (t : Term) → In t ts → lawful_term t ≡ true

in_enter : (ts : List Term) (x t : Term) → In t (enter ts x) → In t ts ⊎ (t ≡ x)
in_enter ts x t i = go (number_of ts x) refl
  where
    go : (n : ℕ) → number_of ts x ≡ n → In t ts ⊎ (t ≡ x)
    go zero e = elim (in_either t ts (x ∷ []) (subst (λ l. In t l) (enter_new ts x e) i)) [
      | inl j ↦ inl j
      | inr j ↦ (elim j [ inl k ↦ inr k | inr k ↦ elim k [ ] ])
    ]
    go (suc n) e = inl (subst (λ l. In t l) (enter_there ts x (omega (arith, e))) i)

lawful_all : (ts xs : List Term) → AllLawful ts → AllLawful xs → AllLawful (enter_all ts xs)
lawful_all ts [] h k = h
lawful_all ts (x ∷ xs) h k = lawful_all (enter ts x) xs
    (λ t i. elim (in_enter ts x t i) [ inl j ↦ h t j | inr e ↦ subst (λ z. lawful_term z ≡ true) (sym e) (k x (inl refl)) ])
    (λ t i. k t (inr i))

lawful_one : (t : Term) → lawful_iri t ≡ true → lawful_term t ≡ true
lawful_one t e = go t.kind (and_parts (is_kind_iri t.kind) (is_iri t.bytes) e)
  where
    go : (k : Kind) → (is_kind_iri k ≡ true) × (is_iri t.bytes ≡ true) → lawful_bytes k t.bytes ≡ true
    go Iri h = h.1
    go Literal h = clash h.0 refl

lawful_parts : (xs : List Triple) → lawful_triples xs ≡ true → AllLawful (parts_of xs)
lawful_parts [] e t i = elim i [ ]
lawful_parts (x ∷ xs) e t i =
    let a = and_parts (lawful_triple x) (lawful_triples xs) e in
    let b = and_parts (lawful_iri x.subject && lawful_iri x.predicate) (lawful_term x.object) a.0 in
    let c = and_parts (lawful_iri x.subject) (lawful_iri x.predicate) b.0 in
    go (λ j. lawful_parts xs a.1 t j) b.1 c.0 c.1 i
  where
    go : (In t (parts_of xs) → lawful_term t ≡ true) → lawful_term x.object ≡ true → lawful_iri x.subject ≡ true → lawful_iri x.predicate ≡ true
        → In t (parts_of (x ∷ xs)) → lawful_term t ≡ true
    go r o s p (inl j) = subst (λ z. lawful_term z ≡ true) (sym j) (lawful_one x.subject s)
    go r o s p (inr (inl j)) = subst (λ z. lawful_term z ≡ true) (sym j) (lawful_one x.predicate p)
    go r o s p (inr (inr (inl j))) = subst (λ z. lawful_term z ≡ true) (sym j) o
    go r o s p (inr (inr (inr j))) = r j

-- ---- entries and where their lists stand

stretch_front : (ls more : List Listed) (first n : ℕ) → first + n ≤ length ls → take n (drop first (ls ++ more)) ≡ take n (drop first ls)
stretch_front ls more zero n h = take-append-le n ls more (omega (arith, h))
stretch_front [] more (suc first) n h = absurd (omega arith)
stretch_front (l ∷ ls) more (suc first) n h = stretch_front ls more first n (omega (arith, h))

placed_append : (first : ℕ) (es ds : List Entry) → placed first (es ++ ds) ≡ placed first es ++ placed (first + total es) ds
placed_append first [] ds = ap (λ k. placed k ds) (omega arith)
placed_append first (e ∷ es) ds =
    ap (λ l. record { iri = e.iri; mark = e.mark; first = first } ∷ l)
    (placed_append (first + size e.mark) es ds ∙ ap (λ k. placed (first + size e.mark) es ++ placed k ds) (omega arith))

placed_below : (first : ℕ) (es : List Entry) (n : Noted) → In n (placed first es) → n.first + size n.mark ≤ first + total es
placed_below first [] n i = elim i [ ]
placed_below first (e ∷ es) n (inl i) = omega (arith, ap (λ (z : Noted). z.first) i, ap (λ (z : Noted). size z.mark) i)
placed_below first (e ∷ es) n (inr i) = omega (arith, placed_below (first + size e.mark) es n i)

pub placed_entry : (first : ℕ) (es : List Entry) (n : Noted) → In n (placed first es) → In {B = Entry} (record { iri = n.iri; mark = n.mark }) es
placed_entry first [] n i = elim i [ ]
placed_entry first (e ∷ es) n (inl i) = inl (ap (λ (z : Noted). record { iri = z.iri; mark = z.mark }) i)
placed_entry first (e ∷ es) n (inr i) = inr (placed_entry (first + size e.mark) es n i)

total_append : (es ds : List Entry) → total (es ++ ds) ≡ total es + total ds
total_append [] ds = omega arith
total_append (e ∷ es) ds = omega (arith, total_append es ds)

iris_behind : (es : List Entry) (e : Entry) → iris_of (es ++ e ∷ []) ≡ iris_of es ++ e.iri ∷ []
iris_behind [] e = refl
iris_behind (d ∷ es) e = ap (◌∷◌ d.iri) (iris_behind es e)

apart_behind : (l : List ℕ) (x : ℕ) → Apart l → (In x l → ⊥) → Apart (l ++ x ∷ [])
apart_behind [] x a h = (λ i. i, tt)
apart_behind (y ∷ l) x a h = (
  λ i. (elim (in_either y l (x ∷ []) i) [
    | inl j ↦ a.0 j
    | inr j ↦ (elim j [ inl k ↦ h (inl (sym k)) | inr k ↦ k ])
  ]),
  apart_behind l x a.1 (λ j. h (inr j)),
)

-- ---- with more terms and triples an entry says what it said

says_more : (ts more : List Term) (t : Told) (m : Mark) (ls : List Listed) → Says ts t m ls → Says (ts ++ more) t m ls
says_more ts more t (Found n) ls h = (h.0, h.1, h.2, h.3 ∙ sym (map_more ts more h.0 h.4), known_more ts more (parts_of h.0) h.4)
says_more ts more t Absent ls h = h
says_more ts more t (Broken code place) ls h = h
says_more ts more t Unfit ls h = h

module _ (v : Tells) (s : State) (us tm : List Term) (eu : us ≡ s.terms ++ tm) (ms lm : List Listed) (em : ms ≡ s.triples ++ lm) where
  holds_more : (es : List Entry) (n : Noted) → n.first + size n.mark ≤ length s.triples → Holds v s n
      → Holds v (record { terms = us; entries = es; triples = ms }) n
  holds_more es n le h = record {
    address = h.address;
    names = ap (λ l. address_of (term_at l n.iri)) eu ∙ address_more s.terms tm n.iri h.address h.names;
    says =
        subst (λ l. Says l (v h.address) n.mark (take (size n.mark) (drop n.first ms))) (sym eu)
        (subst (Says (s.terms ++ tm) (v h.address) n.mark)
        (sym (ap (λ l. take (size n.mark) (drop n.first l)) em ∙ stretch_front s.triples lm n.first (size n.mark) le))
        (says_more s.terms tm (v h.address) n.mark (kept_for s n) h.says));
  }

  old_holds : (es : List Entry) (r : Recorded v s) (n : Noted) → In n (placed 0 s.entries) → Holds v (record { terms = us; entries = es; triples = ms }) n
  old_holds es r n i = holds_more es n (omega (arith, placed_below 0 s.entries n i, r.whole)) (r.entries n i)

  -- one entry more
  one_more : (n : ℕ) (x : List ℕ) (m : Mark) → address_of (term_at s.terms n) ≡ Some x → (In n (iris_of s.entries) → ⊥) → size m ≡ length lm
      → Says us (v x) m lm → AllLawful us → Once us → Recorded v s
      → Recorded v (record { terms = us; entries = s.entries ++ record { iri = n; mark = m } ∷ []; triples = ms })
  one_more n x m a new z says lawful once r = record {
    lawful = lawful;
    once = once;
    apart = subst Apart (sym (iris_behind s.entries (record { iri = n; mark = m }))) (apart_behind (iris_of s.entries) n r.apart new);
    whole = omega (arith, total_append s.entries (record { iri = n; mark = m } ∷ []), r.whole, z, ap length em, length-append s.triples lm);
    entries = λ k i. (elim (in_either k (placed 0 s.entries) (placed (0 + total s.entries) (record { iri = n; mark = m } ∷ []))
        (subst (λ l. In k l) (placed_append 0 s.entries (record { iri = n; mark = m } ∷ [])) i)) [
          | inl j ↦ old_holds (s.entries ++ record { iri = n; mark = m } ∷ []) r k j
          | inr j ↦ (elim j [
            | inl e ↦ subst (Holds v (record { terms = us; entries = s.entries ++ record { iri = n; mark = m } ∷ []; triples = ms })) (sym e) last
            | inr e ↦ elim e [ ]
          ])
        ]);
  }
    where
      last : Holds v (record { terms = us; entries = s.entries ++ record { iri = n; mark = m } ∷ []; triples = ms })
          (record { iri = n; mark = m; first = 0 + total s.entries })
      last = record {
        address = x;
        names = ap (λ l. address_of (term_at l n)) eu ∙ address_more s.terms tm n x a;
        says = subst (Says us (v x) m)
            (sym (ap (λ l. take (size m) (drop (0 + total s.entries) l)) em
            ∙ ap (take (size m)) (drop_at s.triples lm (0 + total s.entries) (omega (arith, r.whole)))
            ∙ take_all (size m) lm (omega (arith, z)))) says;
      }

-- ---- laws

pub fresh_kept : FreshIsRecorded
fresh_kept v = record {
  lawful = λ t i. (elim i [ ]);
  once = λ n t e. absurd (cc);
  apart = tt;
  whole = refl;
  entries = λ n i. (elim i [ ]);
}

pub entering_keeps : EnteringKeepsIt
entering_keeps v s ts h r = go (fitting s ts)
  where
    all : List Term
    all = enter_all s.terms ts

    more : Recorded v (record { terms = all; entries = s.entries; triples = s.triples })
    more =
        let f = enter_all_front s.terms ts in
        record {
          lawful = lawful_all s.terms ts r.lawful h;
          once = once_all s.terms ts r.once;
          apart = r.apart;
          whole = r.whole;
          entries = λ n i. old_holds v s all f.0 f.1 s.triples [] (sym (append-nil s.triples)) s.entries r n i;
        }

    go : (b : Bool) → Recorded v (cond b (record { terms = all; entries = s.entries; triples = s.triples }) s)
    go true = more
    go false = r

pub telling_is_lawful : {C : Type 0} → TellingIsLawful C
telling_is_lawful mark x (found ts) h = record { no_iri = λ e. ap (told mark) (h.no_iri e); few = h.few; terms = h.terms }
telling_is_lawful mark x absent h = record { no_iri = λ e. refl; few = h.few; terms = h.terms }
telling_is_lawful mark x (broken c) h = record { no_iri = λ e. ap (told mark) (h.no_iri e); few = h.few; terms = h.terms }

pub noting_keeps : NotingKeepsIt
noting_keeps v w s n x a new r = go (v x) refl
  where
    mark_more : (m : Mark) → size m ≡ 0 → Says s.terms (v x) m [] → Recorded v (marked m n s)
    mark_more m z says =
        one_more v s s.terms [] (sym (append-nil s.terms)) s.triples [] (sym (append-nil s.triples)) n x m a new z says r.lawful r.once r

    shelf_more : (xs : List Triple) → v x ≡ found xs → Recorded v (shelved xs n s)
    shelf_more xs e =
        let f = enter_all_front s.terms (parts_of xs) in
        let us = enter_all s.terms (parts_of xs) in
        one_more v s us f.0 f.1 (s.triples ++ map (listed us) xs) (map (listed us) xs) refl n x (Found (length xs)) a new
        (sym (length-map xs (listed us)))
        (xs, e, refl, refl, known_all s.terms (parts_of xs))
        (lawful_all s.terms (parts_of xs) r.lawful (lawful_parts xs (ap (λ (t : Told). lawful_triples (triples_told t)) (sym e) ∙ (w x).terms)))
        (once_all s.terms (parts_of xs) r.once) r

    either : (xs : List Triple) → v x ≡ found xs → (b : Bool) → Recorded v (cond b (shelved xs n s) (marked Unfit n s))
    either xs e true = shelf_more xs e
    either xs e false = mark_more Unfit refl (xs, e)

    go : (t : Told) → v x ≡ t → Recorded v (noted t n s)
    go (found xs) e = either xs e (fits s xs)
    go absent e = mark_more Absent refl e
    go (broken c) e = mark_more (Broken c.code c.place) refl e

pub looking_keeps : LookingKeepsIt
looking_keeps v w s n new r = whether (full s)
  where
    there : (o : Option (List ℕ)) → address_of (term_at s.terms n) ≡ o → Recorded v (looked_at o v n s)
    there None e = r
    there (Some x) e = noting_keeps v w s n x e new r

    whether : (b : Bool) → Recorded v (cond b s (looked_at (address_of (term_at s.terms n)) v n s))
    whether true = r
    whether false = there (address_of (term_at s.terms n)) refl

alike_is : (t u : Told) → Alike t u → t ≡ u
alike_is (found ts) (found us) h = ap found h
alike_is (found ts) absent h = absurd h
alike_is (found ts) (broken d) h = absurd h
alike_is absent (found us) h = absurd h
alike_is absent absent h = refl
alike_is absent (broken d) h = absurd h
alike_is (broken c) (found us) h = absurd h
alike_is (broken c) absent h = absurd h
alike_is (broken c) (broken d) h = ap₂ (λ (code place : ℕ). broken (record { code = code; place = place })) h.0 h.1

pub other_web : RecordIsOfItsAddresses
other_web v w s h r = record {
  lawful = r.lawful;
  once = r.once;
  apart = r.apart;
  whole = r.whole;
  entries = λ n i. (let e = r.entries n i in record {
    address = e.address;
    names = e.names;
    says = subst (λ t. Says s.terms t n.mark (kept_for s n))
        (alike_is (v e.address) (w e.address) (h (record { iri = n.iri; mark = n.mark }) e.address (placed_entry 0 s.entries n i) e.names)) e.says;
  });
}
