-- What is asked by number is what is asked by term.
use Rattle.std.proofs.Common.{◌≡◌, ℕ, zero, suc, ◌+◌, ◌↔◌, Bool, true, false, cond, ◌&&◌, List, [], ◌∷◌, Some, None, Option, Ok, Err, Result, sym, refl, ap, ◌∙◌, subst, ap₂, inl, inr}
use mathlib.Core.Path.{fun_ext}
use Rattle.terms.specs.Terms.{Term}
use Rattle.weights.specs.Kinds.{Kind, Lawful}
use Rattle.weights.specs.Scales.{codes}
use Rattle.grammar.specs.Syntax.{Pattern}
use Rattle.grammar.specs.Judged.{judged}
use Rattle.semantics.specs.Terms.{Terms, Exact, In, has}
use Rattle.semantics.specs.Rows.{Row, given, same_at, same_row}
use Rattle.semantics.specs.Bags.{Bag, only, weight}
use Rattle.semantics.specs.Graphs.{Graph}
use Rattle.semantics.specs.Meaning.{meaning, weight_in, possible}
use Rattle.semantics.specs.Webs.{Triple, terms_in, graph_of, Universe, is_iri_kind, by_bytes}
use Rattle.semantics.proofs.Bytes.{by_bytes_exact}
use Rattle.semantics.proofs.Lists.{clash, not_true, any_in, in_has}
use Rattle.semantics.proofs.Possible.{in_rows, rows_possible}
use Rattle.semantics.proofs.Proved.{solutions_are_possible}
use Rattle.semantics.specs.Laws.{Apart as ApartRows}
use Rattle.walks.specs.Crowds.{Apart, TooMany}
use Rattle.walks.specs.Needs.{needs}
use Rattle.walks.specs.Plans.{Needed}
use Rattle.walks.specs.Promises.{whole}
use Rattle.walks.specs.Shelves.{triples, readable, lists_of, Settled, absent}
use Rattle.walks.specs.Translated.{each, slot_by, row_by, pattern_by, bag_by, Faithful, Translates}
use Rattle.walks.proofs.Beside.{nothing_else_matters}
use Rattle.walks.proofs.Listed.{needs_are_listed}
use Rattle.walks.proofs.Namesakes.{in_each, each_in, pattern_back, terms_by, crowds_are_translated}
use Rattle.walks.proofs.Recorded.{record_suffices}
use Rattle.walks.proofs.Translating.{SlotOk, RowOk, judged_by_lem, given_ok, possible_fine, names_are_free}
use Rattle.web.specs.Agreement.{Tells}
use Rattle.web.specs.Meaning.{Looked, told, Mark as Cause}
use Rattle.web.specs.Meaning as web
use Rattle.webs_meant.specs.Finding.{as_triples, found_of}
use Rattle.lexicon.specs.Numbering.{number_of}
use Rattle.shelf.specs.declared.items.Listed.{Listed}
use Rattle.shelf.specs.declared.items.Mark.{Mark}
use Rattle.shelf.specs.declared.items.Mark.TheVariants.{Found, Absent, Broken, Unfit}
use Rattle.shelf.specs.declared.items.Noted.{Noted}
use Rattle.shelf.specs.declared.shelf.Shelf.{Shelf}
use Rattle.shelf.specs.Contexts.{size, on_shelf}
use Rattle.store.specs.declared.record.Entry.{Entry}
use Rattle.store.specs.State.{State, placed}
use Rattle.answering.specs.Promises.{rows_in}
use Rattle.tables.specs.declared.entry.TooMany.{TooMany as Refusal}
use Rattle.evaluation.specs.Evaluated.{found_on, terms_on, Tells as Answer}
use Rattle.evaluation.proofs.Defined.{numbers_exact, shelves_have_universes}
use Rattle.recorded.specs.Recorded.{Says, Recorded}
use Rattle.recorded.specs.ByNumber.{named, is_number, as_told, tells_by, is_unfit, fit, documents_of, graph_in, graph_on}
use Rattle.recorded.specs.ByTerm.{numbered, Asked, SameByNumber, NumbersAskTheSame, answers, Answered, OverTheWeb, RecordAnswers, EvaluationAnswers, SaysTooMany, EvaluationCounts}
use Rattle.recorded.proofs.Rows.{possible_ended, row_is}
use Rattle.recorded.proofs.Naming.{named_number, number_is, number_named, entry_named, universe_by, to_terms, closed_on, closed_in}

-- ---- the rows of a table

row_entry : (L : Bag ℕ ℕ) (r : Row ℕ) → In r (rows_in L) → (u : ℕ) × In (r, u) L
row_entry [] r i = elim i [ ]
row_entry (e ∷ L) r (inl i) = (e.1, inl (ap (λ z. (z, e.1)) i))
row_entry (e ∷ L) r (inr i) = let u = row_entry L r i in (u.0, inr u.1)

entry_row : (L : Bag ℕ ℕ) (r : Row ℕ) (u : ℕ) → In (r, u) L → In r (rows_in L)
entry_row [] r u i = elim i [ ]
entry_row (e ∷ L) r u (inl i) = inl (ap (λ z. z.0) i)
entry_row (e ∷ L) r u (inr i) = inr (entry_row L r u i)

-- ---- the weight of a translated row

module _ {A B : Type 0} (T : Terms A) (S : Terms B) (valid : A → Bool) (f : A → B)
    (apart : (a b : A) → valid a ≡ true → valid b ≡ true → S.same (f a) (f b) ≡ T.same a b) where
  same_slot_by : (o u : Option A) → SlotOk T S valid f apart o → SlotOk T S valid f apart u → same_at S (slot_by f o) (slot_by f u) ≡ same_at T o u
  same_slot_by None None h k = refl
  same_slot_by None (Some b) h k = refl
  same_slot_by (Some a) None h k = refl
  same_slot_by (Some a) (Some b) h k = apart a b h k

  same_row_by : (a b : Row A) → RowOk T S valid f apart a → RowOk T S valid f apart b → same_row S (row_by f a) (row_by f b) ≡ same_row T a b
  same_row_by [] [] h k = refl
  same_row_by [] (u ∷ b) h k = ap₂ ◌&&◌ (same_slot_by None u tt k.0) (same_row_by [] b tt k.1)
  same_row_by (o ∷ a) [] h k = ap₂ ◌&&◌ (same_slot_by o None h.0 tt) (same_row_by a [] h.1 tt)
  same_row_by (o ∷ a) (u ∷ b) h k = ap₂ ◌&&◌ (same_slot_by o u h.0 k.0) (same_row_by a b h.1 k.1)

  weight_by : (k : Kind) (r : Row A) → RowOk T S valid f apart r → (L : Bag A ℕ) → ((e : Row A × ℕ) → In e L → RowOk T S valid f apart e.0)
      → weight S (codes k) (row_by f r) (bag_by f L) ≡ weight T (codes k) r L
  weight_by k r h [] g = refl
  weight_by k r h (e ∷ L) g = ap₂ k.sum
      (ap (λ b. only (codes k) b e.1) (same_row_by r e.0 h (g e (inl refl))))
      (weight_by k r h L (λ d i. g d (inr i)))

  ok_given : (r : Row A) → ((v : ℕ) (a : A) → given r v ≡ Some a → valid a ≡ true) → RowOk T S valid f apart r
  ok_given [] h = tt
  ok_given (None ∷ r) h = (tt, ok_given r (λ v a e. h (suc v) a e))
  ok_given (Some a ∷ r) h = (h zero a refl, ok_given r (λ v b e. h (suc v) b e))

  given_valid : (r : Row A) → RowOk T S valid f apart r → (v : ℕ) (a : A) → given r v ≡ Some a → valid a ≡ true
  given_valid r h v a e = subst (SlotOk T S valid f apart) e (given_ok T S valid f apart r v h)

-- ---- a question whose terms are in the session

module _ (v : Tells) (s : State) (h : Shelf) (p : Pattern Term ℕ) (U : List ℕ) (asked : Asked v s h p U) where
  abbrev ts : List Term
  ts = s.terms

  abbrev f : ℕ → Term
  f = named s.terms

  abbrev T : Terms ℕ
  T = terms_on h

  abbrev q : Pattern ℕ ℕ
  q = numbered s.terms p

  abbrev G : Graph ℕ
  G = graph_on h U

  abbrev V : List Term
  V = each (named s.terms) U

  abbrev H : Graph Term
  H = graph_in v s V

  abbrev r : Recorded v s
  r = asked.recorded

  x : Exact T
  x = numbers_exact (on_shelf h)

  q_valid : (n : ℕ) → In n (terms_in q) → is_number ts n ≡ true
  q_valid n i =
      let t = each_in (number_of ts) (terms_in p) n (subst (λ l. In n l) (terms_by (number_of ts) p) i) in
      ap (is_number ts) t.2 ∙ number_is ts t.0 (asked.known t.0 t.1)

  back : pattern_by f q ≡ p
  back = pattern_back (number_of ts) f p (λ t i. named_number ts t (asked.known t i))

  faithful : Faithful T by_bytes (is_number s.terms) (named s.terms) G H.context
  faithful = to_terms v s r h asked.lends q q_valid U asked.universe V

  pub asked_needed : needs by_bytes H (whole p) ≡ each f (needs T G (whole q))
      → (i : Term) → Needed by_bytes H (whole p) i ↔ ((n : ℕ) × Needed T G (whole q) n × (i ≡ f n))
  asked_needed e i =
      let cH = closed_in v s r h asked.lends q q_valid U asked.universe in
      let cG = closed_on v s r h asked.lends q q_valid U asked.universe in
      let there = needs_are_listed by_bytes by_bytes_exact H cH (whole p) i in (
        λ d. (let n = each_in f (needs T G (whole q)) i (subst (λ l. In i l) e (there.0 d)) in
            (n.0, (needs_are_listed T x G cG (whole q) n.0).1 n.1, n.2)),
        λ n. there.1 (subst (λ l. In i l) (sym e) (subst (λ z. In z (each f (needs T G (whole q)))) (sym n.2)
            (in_each f (needs T G (whole q)) n.0 ((needs_are_listed T x G cG (whole q) n.0).0 n.1)))),
      )

  translates : Translates T by_bytes f G H q
  translates = names_are_free T x by_bytes (is_number ts) f G H.context faithful q q_valid

  gives_fine : (k : Kind) (e : Row ℕ × ℕ) → In e (meaning T G (codes k) q) → RowOk T by_bytes (is_number ts) f faithful.apart e.0
  gives_fine k e i =
      possible_fine T x by_bytes (is_number ts) f G H.context faithful q e.0
      (subst (λ l. In e.0 l) (rows_possible T G (codes k) q) (in_rows T (codes k) e (meaning T G (codes k) q) i))

  pub same_asked : SameByNumber s h p G H
  same_asked = record {
    verdict = λ m. judged_by_lem (number_of ts) p m;
    needs = ap (λ z. needs by_bytes H (whole z)) (sym back) ∙ translates.needs;
    needed = asked_needed (ap (λ z. needs by_bytes H (whole z)) (sym back) ∙ translates.needs);
    rows = ap (possible by_bytes H) (sym back) ∙ translates.rows;
    weights = λ k m g.
        ap (λ z. weight by_bytes (codes k) (row_by f m) (meaning by_bytes H (codes k) z)) (sym back)
        ∙ ap (weight by_bytes (codes k) (row_by f m)) (translates.bags k)
        ∙ weight_by T by_bytes (is_number ts) f faithful.apart k m (ok_given T by_bytes (is_number ts) f faithful.apart m g)
        (meaning T G (codes k) q) (gives_fine k);
    crowds = subst (λ z. (TooMany T G (whole q) ↔ TooMany by_bytes H (whole z))) back
        (crowds_are_translated T x by_bytes by_bytes_exact (is_number ts) f (number_of ts) (number_named ts r.once) G H.context faithful
        (closed_on v s r h asked.lends q q_valid U asked.universe) (closed_in v s r h asked.lends q q_valid U asked.universe) q q_valid);
    gives = λ m i. given_valid T by_bytes (is_number ts) f faithful.apart m (possible_fine T x by_bytes (is_number ts) f G H.context faithful q m i);
  }

  -- rows that are told apart by number are told apart by term
  pub once_asked : (L : Bag ℕ ℕ) → ((m : Row ℕ) → In m (rows_in L) → In m (possible T G q)) → Apart (rows_in L) → ApartRows by_bytes (bag_by f L)
  once_asked [] g d = tt
  once_asked (e ∷ L) g d = (other, once_asked L (λ m i. g m (inr i)) d.1)
    where
      fine : (m : Row ℕ) → In m (possible T G q) → RowOk T by_bytes (is_number ts) f faithful.apart m
      fine m i = possible_fine T x by_bytes (is_number ts) f G H.context faithful q m i

      differ : (m : Row ℕ) → In m (rows_in L) → same_row by_bytes (row_by f e.0) (row_by f m) ≡ false
      differ m i =
          let pe = g e.0 (inl refl) in
          let pm = g m (inr i) in
          not_true (same_row by_bytes (row_by f e.0) (row_by f m)) (λ z.
          d.0 (subst (λ w. In w (rows_in L)) (sym (row_is x e.0 m (possible_ended T G q e.0 pe) (possible_ended T G q m pm)
          (sym (same_row_by T by_bytes (is_number ts) f faithful.apart e.0 m (fine e.0 pe) (fine m pm)) ∙ z))) i))

      other : (c : Row Term × ℕ) → In c (bag_by f L) → same_row by_bytes (row_by f e.0) c.0 ≡ false
      other c i =
          let k = each_in (λ z. (row_by f z.0, z.1)) L c i in
          ap (λ z. same_row by_bytes (row_by f e.0) z.0) k.2 ∙ differ k.0.0 (entry_row L k.0.0 k.0.1 k.1)

  -- the terms of the documents that are recorded
  universe_asked : Universe by_bytes (documents_of v s) p V
  universe_asked = subst (λ z. Universe by_bytes (documents_of v s) z V) back (universe_by v s r h asked.lends q q_valid U asked.universe)

  pub crowds_asked : judged p 0 ≡ true → (W : List Term) → Universe by_bytes (documents_of v s) p W
      → TooMany T G (whole q) ↔ TooMany by_bytes (graph_in v s W) (whole p)
  crowds_asked j W w =
      let found = documents_of v s in
      let same = (nothing_else_matters by_bytes by_bytes_exact found found (λ i. inl refl) p j V W universe_asked w (λ i n. refl)).crowds in
      (λ t. same.1 (same_asked.crowds.0 t), λ t. same_asked.crowds.1 (same.0 t))

  -- ---- over the whole Web

  entry_placed : (first : ℕ) (es : List Entry) (e : Entry) → In e es → (k : Noted) × In k (placed first es) × (k.iri ≡ e.iri) × (k.mark ≡ e.mark)
  entry_placed first [] e i = elim i [ ]
  entry_placed first (d ∷ es) e (inl i) =
      (record { iri = d.iri; mark = d.mark; first = first }, inl refl, ap (λ (z : Entry). z.iri) (sym i), ap (λ (z : Entry). z.mark) (sym i))
  entry_placed first (d ∷ es) e (inr i) = let k = entry_placed (first + size d.mark) es e i in (k.0, inr k.1, k.2, k.3)

  in_fit : (es : List Entry) (e : Entry) → In e es → is_unfit e.mark ≡ false → In (f e.iri) (fit ts es)
  in_fit [] e i u = elim i [ ]
  in_fit (d ∷ es) e (inl i) u =
      subst (λ b. In (f e.iri) (cond b (fit ts es) (f d.iri ∷ fit ts es))) (sym (ap (λ (z : Entry). is_unfit z.mark) (sym i) ∙ u))
      (inl (ap (λ (z : Entry). f z.iri) i))
  in_fit (d ∷ es) e (inr i) u = go (is_unfit d.mark) (in_fit es e i u)
    where
      go : (b : Bool) → In (f e.iri) (fit ts es) → In (f e.iri) (cond b (fit ts es) (f d.iri ∷ fit ts es))
      go true j = j
      go false j = inr j

  answers_fit : (m : Mark) → answers m ≡ true → is_unfit m ≡ false
  answers_fit (Found n) e = refl
  answers_fit Absent e = refl
  answers_fit (Broken code place) e = refl
  answers_fit Unfit e = sym e

  says_readable : (t : web.Told) (m : Mark) (ls : List Listed) → Says ts t m ls → answers m ≡ true → readable (as_told t) ≡ true
  says_readable t (Found n) ls g e = ap (λ z. readable (as_told z)) g.1
  says_readable t Absent ls g e = ap (λ z. readable (as_told z)) g
  says_readable t (Broken code place) ls g e = clash e refl
  says_readable t Unfit ls g e = clash e refl

  settled : (n : ℕ) → Answered s n → Settled by_bytes (tells_by v) (fit ts s.entries) (f n)
  settled n a =
      let k = entry_placed 0 s.entries a.0 a.1 in
      let hold = r.entries k.0 k.1 in
      let at : f n ≡ f k.0.iri = ap f (sym (k.2 ∙ a.2)) in (
        ap (λ z. has by_bytes (f z) (fit ts s.entries)) (sym a.2)
            ∙ in_has by_bytes_exact (f a.0.iri) (fit ts s.entries) (in_fit s.entries a.0 a.1 (answers_fit a.0.mark a.3)),
        ap (λ z. readable (tells_by v z)) (at ∙ entry_named v s r k.0 hold)
            ∙ says_readable (v hold.address) k.0.mark _ hold.says (ap answers k.3 ∙ a.3),
      )

  pub over_the_web : judged p 0 ≡ true → ((n : ℕ) → Needed T G (whole q) n → Answered s n) → (found : Term → List (Triple Term)) → found ≡ lists_of (tells_by v)
      → (W : List Term) → Universe by_bytes found p W → (k : Kind) → Lawful k → OverTheWeb k found W s h p G
  over_the_web j all found e W w k l = record {
    weights = λ m g. web_weight (row_by f m) ∙ same_asked.weights k m g;
    solutions = λ m g.
        (let o = any_in (same_row by_bytes m) (possible by_bytes H p) (solutions_are_possible by_bytes by_bytes_exact H k l p m (λ z. g (web_weight m ∙ z))) in
        let i = each_in (row_by f) (possible T G q) o.0 (subst (λ L. In o.0 L) same_asked.rows o.1) in
        (i.0, i.1, subst (λ z. same_row by_bytes m z ≡ true) i.2 o.2));
  }
    where
      web_weight : (m : Row Term) → weight_in by_bytes (graph_of by_bytes found W) k p m ≡ weight_in by_bytes H k p m
      web_weight m =
          ap (λ z. weight_in by_bytes (graph_of by_bytes z W) k p m) e
          ∙ record_suffices by_bytes by_bytes_exact k l (tells_by v) (fit ts s.entries) p j W V
          (subst (λ z. Universe by_bytes z p W) e w)
          universe_asked
          (λ i d. let n = (same_asked.needed i).0 d in
          subst (Settled by_bytes (tells_by v) (fit ts s.entries)) (sym n.2) (settled n.0 (all n.0 n.1))) m

-- ---- laws

pub numbers_ask_the_same : NumbersAskTheSame
numbers_ask_the_same v s h p U a = same_asked v s h p U a

-- what a make's meaning finds is what it tells
found_told : {C : Type 0} (mark : C → Cause) (meaning : List ℕ → Looked C) → found_of meaning ≡ lists_of (tells_by (λ iri. told mark (meaning iri)))
found_told mark meaning = fun_ext (λ t. go (is_iri_kind t.kind) (meaning t.bytes))
  where
    go : (b : Bool) (l : Looked _) → cond b (as_triples (web.triples l)) [] ≡ triples (cond b (as_told (told mark l)) absent)
    go true (web.found xs) = refl
    go true web.absent = refl
    go true (web.broken c) = refl
    go false l = refl

pub record_answers : {C : Type 0} → RecordAnswers C
record_answers mark meaning s h p U a j all W w k l =
    over_the_web (λ iri. told mark (meaning iri)) s h p U a j all (found_of meaning) (found_told mark meaning) W w k l

pub evaluation_answers : {C : Type 0} → EvaluationAnswers C
evaluation_answers mark meaning s h p r l n j k w marks table given_table all W web_universe =
    let u = shelves_have_universes h (numbered s.terms p) in
    let a : Asked (λ iri. told mark (meaning iri)) s h p u.0 = record { recorded = r; lends = l; known = n; universe = u.1 } in
    let t = (given_table u.0 u.1).1 in
    let o = record_answers mark meaning s h p u.0 a j
    (λ i d. all i d.iri ((t.needs i d.iri).1 d)) W web_universe k w in
    let same = numbers_ask_the_same (λ iri. told mark (meaning iri)) s h p u.0 a in
    record {
      once = once_asked (λ iri. told mark (meaning iri)) s h p u.0 a table (λ m. (t.rows m).0) t.once;
      weights = λ m c i. t.weights m c i ∙ sym (o.weights m (same.gives m ((t.rows m).0 (entry_row table m c i))));
      solutions = λ m g. (let y = o.solutions m g in let c = row_entry table y.0 ((t.rows y.0).1 y.1) in (y.0, c.0, c.1, y.2));
    }

pub evaluation_counts : EvaluationCounts
evaluation_counts v s h p r l n j k result marks table given_table W w = go result (given_table u.0 u.1)
  where
    u : (U : List ℕ) × Universe (terms_on h) (found_on h) (numbered s.terms p) U
    u = shelves_have_universes h (numbered s.terms p)

    counts : TooMany (terms_on h) (graph_on h u.0) (whole (numbered s.terms p)) ↔ TooMany by_bytes (graph_in v s W) (whole p)
    counts = crowds_asked v s h p u.0 (record { recorded = r; lends = l; known = n; universe = u.1 }) j W w

    go : (o : Result (Unit {0}) Refusal) → Answer k h (graph_on h u.0) (numbered s.terms p) o marks table
        → SaysTooMany o (TooMany by_bytes (graph_in v s W) (whole p))
    go (Err e) t = counts.0 t
    go (Ok c) t = λ z. t.0 (counts.1 z)
