-- The documents at hand by number are those of the record by term.
use Rattle.std.proofs.Common.{◌≡◌, ℕ, zero, suc, ◌+◌, ◌<◌, Bool, true, false, cond, ◌&&◌, ◌||◌, eqb, ltb, leb, List, [], ◌∷◌, map, length, take, drop, is_some, unwrap_or, Some, None, Option, sym, refl, ap, ◌∙◌, subst, ap₂, inl, inr, arith}
use mathlib.Core.Path.{fun_ext}
use Rattle.terms.specs.declared.kind.Kind.{Kind}
use Rattle.terms.specs.declared.kind.Kind.TheVariants.{Iri, Literal}
use Rattle.terms.specs.Terms.{Term}
use Rattle.grammar.specs.Syntax.{Pattern}
use Rattle.semantics.specs.Terms.{Terms, Exact, In, has, Distinct}
use Rattle.semantics.specs.Graphs.{Closed}
use Rattle.semantics.specs.Webs.{Triple, terms_in, terms_listed, about, Met, Universe, is_iri_kind, by_bytes}
use Rattle.semantics.proofs.Bytes.{by_bytes_exact}
use Rattle.semantics.proofs.Lists.{clash, iff, by_test, has_in, in_has}
use Rattle.semantics.proofs.Universes.{web_closed}
use Rattle.walks.specs.Crowds.{Apart}
use Rattle.walks.specs.Shelves.{triples}
use Rattle.walks.specs.Translated.{each, pattern_by, Faithful}
use Rattle.walks.proofs.Namesakes.{in_each, each_in, terms_by, faithful_back, named as leads_back}
use Rattle.web.specs.Agreement.{Tells}
use Rattle.web.specs.Meaning as web
use Rattle.webs_meant.specs.Finding.{as_triples}
use Rattle.lexicon.specs.Numbering.{term, number_of, term_at}
use Rattle.lexicon.specs.Held.{kind_of}
use Rattle.lexicon.specs.Parts.{no_term}
use Rattle.lexicon.proofs.Numbers.{Once, number_tells}
use Rattle.shelf.specs.declared.items.Listed.{Listed}
use Rattle.shelf.specs.declared.items.Mark.{Mark}
use Rattle.shelf.specs.declared.items.Mark.TheVariants.{Found, Absent, Broken, Unfit}
use Rattle.shelf.specs.declared.items.Noted.{Noted}
use Rattle.shelf.specs.declared.shelf.Shelf.{Shelf}
use Rattle.shelf.specs.Contexts.{size, iri_among, listed_in, is_iri_kind as is_kind, on_shelf}
use Rattle.store.specs.declared.record.Entry.{Entry}
use Rattle.store.specs.State.{State, parts_of, listed, placed}
use Rattle.evaluation.specs.Evaluated.{triples_of, found_on, terms_on}
use Rattle.evaluation.proofs.Defined.{same_contexts, numbers_exact}
use Rattle.recorded.specs.Recorded.{Known, Says, Holds, iris_of, Recorded}
use Rattle.recorded.specs.ByNumber.{NumbersCount, named, is_number, is_known, triple_by, as_told, tells_by, is_unfit, fit, documents_of, graph_in, Lends, graph_on, DocumentsAreTheWebs, ContextsAreTheWebs, GraphsAreNamesakes}
use Rattle.recorded.proofs.Kept.{address_term}

-- ---- numbers and terms

some_named : (o : Option Term) → is_some o ≡ true → o ≡ Some (unwrap_or o no_term)
some_named None h = clash h refl
some_named (Some t) h = refl

pub at_named : (ts : List Term) (n : ℕ) → is_number ts n ≡ true → term_at ts n ≡ Some (named ts n)
at_named ts n h = some_named (term_at ts n) h

pub named_number : (ts : List Term) (t : Term) → 0 < number_of ts t → named ts (number_of ts t) ≡ t
named_number ts t h = ap (λ o. unwrap_or o no_term) (number_tells ts t h)

pub number_is : (ts : List Term) (t : Term) → 0 < number_of ts t → is_number ts (number_of ts t) ≡ true
number_is ts t h = ap is_some (number_tells ts t h)

pub number_named : (ts : List Term) → Once ts → (n : ℕ) → is_number ts n ≡ true → number_of ts (named ts n) ≡ n
number_named ts once n h = once n (named ts n) (at_named ts n h)

same_number : (a b : ℕ) → eqb a b ≡ true → a ≡ b
same_number a b e = grind arith

self_number : (a : ℕ) → eqb a a ≡ true
self_number a = grind arith

pub named_apart : (ts : List Term) → Once ts → (a b : ℕ) → is_number ts a ≡ true → is_number ts b ≡ true → by_bytes.same (named ts a) (named ts b) ≡ eqb a b
named_apart ts once a b ha hb = iff (by_bytes.same (named ts a) (named ts b)) (eqb a b)
    (λ e. let f : a ≡ b = sym (number_named ts once a ha) ∙ ap (number_of ts) (by_bytes_exact.tells (named ts a) (named ts b) e) ∙ number_named ts once b hb in
    ap (eqb a) (sym f) ∙ self_number a)
    (λ e. ap (λ n. by_bytes.same (named ts a) (named ts n)) (sym (same_number a b e)) ∙ by_bytes_exact.told (named ts a))

-- ---- kinds

two_tests : (k : Kind) → is_kind k ≡ is_iri_kind k
two_tests Iri = refl
two_tests Literal = refl

pub kinds_are : (ts : List Term) (n : ℕ) → iri_among (map kind_of ts) n ≡ is_iri_kind (named ts n).kind
kinds_are [] zero = refl
kinds_are [] (suc n) = refl
kinds_are (x ∷ ts) zero = refl
kinds_are (x ∷ ts) (suc zero) = two_tests x.kind
kinds_are (x ∷ ts) (suc (suc n)) = kinds_are ts (suc n)

-- only a number names an IRI
pub iri_number : (ts : List Term) (n : ℕ) → is_iri_kind (named ts n).kind ≡ true → is_number ts n ≡ true
iri_number ts n h = go (term_at ts n) h
  where
    go : (o : Option Term) → is_iri_kind (unwrap_or o no_term).kind ≡ true → is_some o ≡ true
    go None h = clash h refl
    go (Some t) h = refl

module _ (v : Tells) (s : State) (r : Recorded v s) where
  abbrev ts : List Term
  ts = s.terms

  abbrev f : ℕ → Term
  f = named s.terms

  abbrev valid : ℕ → Bool
  valid = is_number s.terms

  -- triples of numbers, by term
  abbrev renamed : List (Triple ℕ) → List (Triple Term)
  renamed l = each (triple_by f) l

  -- what the Web finds for a term
  abbrev at_web : Term → List (Triple Term)
  at_web t = triples (tells_by v t)

  -- ---- lists

  listed_back : (xs : List web.Triple) → Known ts (parts_of xs) → renamed (triples_of (map (listed ts) xs)) ≡ as_triples xs
  listed_back [] h = refl
  listed_back (x ∷ xs) h =
      let hs = h x.subject (inl refl) in
      let hp = h x.predicate (inr (inl refl)) in
      let ho = h x.object (inr (inr (inl refl))) in
      let rest = listed_back xs (λ u j. h u (inr (inr (inr j)))) in
      let l = listed ts x in
      let more = triples_of (map (listed ts) xs) in
      ap (λ b. renamed (cond b more (record { subject = l.subject; predicate = l.predicate; object = l.object } ∷ more)))
      (positive (number_of ts x.object) ho)
      ∙ (λ i. record {
        subject = named_number ts x.subject hs i;
        predicate = named_number ts x.predicate hp i;
        object = named_number ts x.object ho i;
      } ∷ rest i)
    where
      positive : (n : ℕ) → 0 < n → eqb n 0 ≡ false
      positive n h = grind arith

  abbrev Fine : Triple ℕ → Type 0
  Fine t = (valid t.subject ≡ true) × (valid t.predicate ≡ true) × (valid t.object ≡ true)

  abbrev AllNumbers : List (Triple ℕ) → Type 0
  AllNumbers l = (t : Triple ℕ) → In t l → Fine t

  listed_numbers : (xs : List web.Triple) → Known ts (parts_of xs) → AllNumbers (triples_of (map (listed ts) xs))
  listed_numbers [] h t i = elim i [ ]
  listed_numbers (x ∷ xs) h t i = go (eqb (number_of ts x.object) 0) i (λ j. listed_numbers xs (λ u k. h u (inr (inr (inr k)))) t j)
    where
      l : Listed
      l = listed ts x

      it : Triple ℕ
      it = record { subject = l.subject; predicate = l.predicate; object = l.object }

      this : (t : Triple ℕ) → t ≡ it → Fine t
      this t e = (
        ap (λ (z : Triple ℕ). valid z.subject) e ∙ number_is ts x.subject (h x.subject (inl refl)),
        ap (λ (z : Triple ℕ). valid z.predicate) e ∙ number_is ts x.predicate (h x.predicate (inr (inl refl))),
        ap (λ (z : Triple ℕ). valid z.object) e ∙ number_is ts x.object (h x.object (inr (inr (inl refl)))),
      )

      go : (b : Bool) → In t (cond b (triples_of (map (listed ts) xs)) (it ∷ triples_of (map (listed ts) xs)))
          → (In t (triples_of (map (listed ts) xs)) → Fine t)
          → Fine t
      go true j k = k j
      go false (inl e) k = this t e
      go false (inr j) k = k j

  -- what an entry keeps has numbers, and is what the Web finds, unless it is unfit
  says_numbers : (t : web.Told) (m : Mark) (ls : List Listed) → Says ts t m (take (size m) ls) → AllNumbers (triples_of (take (size m) ls))
  says_numbers t (Found n) ls h = subst (λ l. AllNumbers (triples_of l)) (sym h.3) (listed_numbers h.0 h.4)
  says_numbers t Absent ls h = λ u i. (elim i [ ])
  says_numbers t (Broken code place) ls h = λ u i. (elim i [ ])
  says_numbers t Unfit ls h = λ u i. (elim i [ ])

  says_list : (t : web.Told) (m : Mark) (ls : List Listed) → Says ts t m (take (size m) ls) → is_unfit m ≡ false
      → triples (as_told t) ≡ renamed (triples_of (take (size m) ls))
  says_list t (Found n) ls h e = ap (λ z. triples (as_told z)) h.1 ∙ sym (listed_back h.0 h.4) ∙ ap (λ l. renamed (triples_of l)) (sym h.3)
  says_list t Absent ls h e = ap (λ z. triples (as_told z)) h
  says_list t (Broken code place) ls h e = ap (λ z. triples (as_told z)) h
  says_list t Unfit ls h e = clash refl e

  says_nothing : (t : web.Told) (m : Mark) (ls : List Listed) → is_unfit m ≡ true → renamed (triples_of (take (size m) ls)) ≡ []
  says_nothing t (Found n) ls e = clash e refl
  says_nothing t Absent ls e = refl
  says_nothing t (Broken code place) ls e = refl
  says_nothing t Unfit ls e = refl

  -- ---- entries

  abbrev AllHold : ℕ → List Entry → Type 0
  AllHold first es = (k : Noted) → In k (placed first es) → Holds v s k

  names_iri : (k : Noted) (h : Holds v s k) → term_at ts k.iri ≡ Some (term Iri h.address)
  names_iri k h = address_term (term_at ts k.iri) h.address h.names

  entry_valid : (k : Noted) → Holds v s k → valid k.iri ≡ true
  entry_valid k h = ap is_some (names_iri k h)

  pub entry_named : (k : Noted) (h : Holds v s k) → f k.iri ≡ term Iri h.address
  entry_named k h = ap (λ o. unwrap_or o no_term) (names_iri k h)

  found_numbers : (first : ℕ) (es : List Entry) → AllHold first es → (n : ℕ) → AllNumbers (triples_of (listed_in (placed first es) s.triples n))
  found_numbers first [] a n t i = elim i [ ]
  found_numbers first (e ∷ es) a n t i = go (eqb e.iri n) i (λ j. found_numbers (first + size e.mark) es (λ k j. a k (inr j)) n t j)
    where
      k : Noted
      k = record { iri = e.iri; mark = e.mark; first = first }

      go : (b : Bool) → In t (triples_of (cond b (take (size e.mark) (drop first s.triples)) (listed_in (placed (first + size e.mark) es) s.triples n)))
          → (In t (triples_of (listed_in (placed (first + size e.mark) es) s.triples n)) → Fine t)
          → Fine t
      go true j g =
          let h = a (record { iri = e.iri; mark = e.mark; first = first }) (inl refl) in
          says_numbers (v h.address) e.mark (drop first s.triples) h.says t j
      go false j g = g j

  -- a number that no entry has is not among the fit ones
  not_fit : (first : ℕ) (es : List Entry) → AllHold first es → (n : ℕ) → valid n ≡ true → (In n (iris_of es) → ⊥) → has by_bytes (f n) (fit ts es) ≡ false
  not_fit first [] a n h new = refl
  not_fit first (e ∷ es) a n h new = go (is_unfit e.mark) (not_fit (first + size e.mark) es (λ k j. a k (inr j)) n h (λ j. new (inr j)))
    where
      other : by_bytes.same (f n) (f e.iri) ≡ false
      other =
          let k : Noted = record { iri = e.iri; mark = e.mark; first = first } in
          named_apart ts r.once n e.iri h (entry_valid k (a k (inl refl))) ∙ differ n e.iri (λ g. new (inl g))
        where
          differ : (x y : ℕ) → (x ≡ y → ⊥) → eqb x y ≡ false
          differ x y g = grind arith

      go : (b : Bool) → has by_bytes (f n) (fit ts es) ≡ false → has by_bytes (f n) (cond b (fit ts es) (f e.iri ∷ fit ts es)) ≡ false
      go true g = g
      go false g = ap₂ ◌||◌ other g

  -- the list that is kept for a number
  entries_list : (first : ℕ) (es : List Entry) → AllHold first es → Apart (iris_of es) → (n : ℕ) → valid n ≡ true
      → cond (has by_bytes (f n) (fit ts es)) (at_web (f n)) [] ≡ renamed (triples_of (listed_in (placed first es) s.triples n))
  entries_list first [] a d n h = refl
  entries_list first (e ∷ es) a d n h = by_test (eqb e.iri n) this
      (λ g. sym (ap (λ b. renamed (triples_of (cond b (take (size e.mark) (drop first s.triples)) rest))) g
      ∙ sym (other g (is_unfit e.mark) ∙ entries_list (first + size e.mark) es (λ k j. a k (inr j)) d.1 n h)))
    where
      k : Noted
      k = record { iri = e.iri; mark = e.mark; first = first }

      whole : Holds v s k
      whole = a k (inl refl)

      rest : List Listed
      rest = listed_in (placed (first + size e.mark) es) s.triples n

      differ : (x y : ℕ) → eqb x y ≡ false → eqb y x ≡ false
      differ x y g = grind arith

      other : eqb e.iri n ≡ false → (b : Bool)
          → cond (has by_bytes (f n) (cond b (fit ts es) (f e.iri ∷ fit ts es))) (at_web (f n)) []
          ≡ cond (has by_bytes (f n) (fit ts es)) (at_web (f n)) []
      other g true = refl
      other g false =
          ap (λ b. cond (b || has by_bytes (f n) (fit ts es)) (at_web (f n)) [])
          (named_apart ts r.once n e.iri h (entry_valid k whole) ∙ differ e.iri n g)

      at : eqb e.iri n ≡ true → f n ≡ term Iri whole.address
      at g = ap f (sym (same_number e.iri n g)) ∙ entry_named k whole

      told : eqb e.iri n ≡ true → at_web (f n) ≡ triples (as_told (v whole.address))
      told g = ap (λ z. triples (tells_by v z)) (at g)

      unfit_or_not : eqb e.iri n ≡ true → (b : Bool) → is_unfit e.mark ≡ b
          → cond (has by_bytes (f n) (cond b (fit ts es) (f e.iri ∷ fit ts es))) (at_web (f n)) []
          ≡ renamed (triples_of (take (size e.mark) (drop first s.triples)))
      unfit_or_not g true u =
          ap (λ b. cond b (at_web (f n)) [])
          (not_fit (first + size e.mark) es (λ k j. a k (inr j)) n h (λ j. d.0 (subst (λ z. In z (iris_of es)) (sym (same_number e.iri n g)) j)))
          ∙ sym (says_nothing (v whole.address) e.mark (drop first s.triples) u)
      unfit_or_not g false u =
          ap (λ b. cond (b || has by_bytes (f n) (fit ts es)) (at_web (f n)) [])
          (ap (λ z. by_bytes.same (f n) (f z)) (same_number e.iri n g) ∙ by_bytes_exact.told (f n))
          ∙ told g ∙ says_list (v whole.address) e.mark (drop first s.triples) whole.says u

      this : eqb e.iri n ≡ true → cond (has by_bytes (f n) (fit ts (e ∷ es))) (at_web (f n)) []
          ≡ renamed (triples_of (listed_in (placed first (e ∷ es)) s.triples n))
      this g = unfit_or_not g (is_unfit e.mark) refl
          ∙ sym (ap (λ b. renamed (triples_of (cond b (take (size e.mark) (drop first s.triples)) rest))) g)

  -- a fit IRI is that of an entry
  fit_entry : (first : ℕ) (es : List Entry) → AllHold first es → (t : Term) → In t (fit ts es) → (n : ℕ) × (valid n ≡ true) × (t ≡ f n)
  fit_entry first [] a t i = elim i [ ]
  fit_entry first (e ∷ es) a t i = go (is_unfit e.mark) i (λ j. fit_entry (first + size e.mark) es (λ k j. a k (inr j)) t j)
    where
      go : (b : Bool) → In t (cond b (fit ts es) (f e.iri ∷ fit ts es))
          → (In t (fit ts es) → (n : ℕ) × (valid n ≡ true) × (t ≡ f n)) → (n : ℕ) × (valid n ≡ true) × (t ≡ f n)
      go true j g = g j
      go false (inl j) g = let k : Noted = record { iri = e.iri; mark = e.mark; first = first } in (e.iri, entry_valid k (a k (inl refl)), j)
      go false (inr j) g = g j

  -- ---- the shelf

  module _ (h : Shelf) (l : Lends s h) where
    abbrev T : Terms ℕ
    T = terms_on h

    -- the record's documents, by term
    abbrev found_in : Term → List (Triple Term)
    found_in = documents_of v s

    iri_named : (n : ℕ) → on_shelf h n ≡ is_iri_kind (f n).kind
    iri_named n = ap (λ ks. iri_among ks n) l.kinds ∙ kinds_are ts n

    abbrev listed_by : ℕ → List Listed
    listed_by n = listed_in (placed 0 s.entries) s.triples n

    shelf_lists : (n : ℕ) → found_on h n ≡ triples_of (cond (on_shelf h n) (listed_by n) [])
    shelf_lists n = ap₂ (λ ns ls. triples_of (cond (on_shelf h n) (listed_in ns ls n) [])) l.noted l.triples

    pub documents : (n : ℕ) → valid n ≡ true → documents_of v s (f n) ≡ renamed (found_on h n)
    documents n e = by_test (on_shelf h n)
        (λ i. entries_list 0 s.entries r.entries r.apart n e
        ∙ sym (ap renamed (shelf_lists n ∙ ap (λ b. triples_of (cond b (listed_by n) [])) i)))
        (λ i. nothing (has by_bytes (f n) (fit ts s.entries))
        (ap triples (ap (λ b. cond b (as_told (v (f n).bytes)) (tells_by v no_term)) (sym (iri_named n) ∙ i)))
        ∙ sym (ap renamed (shelf_lists n ∙ ap (λ b. triples_of (cond b (listed_by n) [])) i)))
      where
        nothing : (b : Bool) → at_web (f n) ≡ [] → cond b (at_web (f n)) [] ≡ []
        nothing true g = g
        nothing false g = refl

    found_valid : (n : ℕ) → AllNumbers (found_on h n)
    found_valid n = subst AllNumbers (sym (shelf_lists n)) (go (on_shelf h n))
      where
        go : (b : Bool) → AllNumbers (triples_of (cond b (listed_by n) []))
        go true = found_numbers 0 s.entries r.entries n
        go false = λ t i. (elim i [ ])

    -- ---- contexts

    about_in : (a : ℕ) (ls : List (Triple ℕ)) (t : ℕ × ℕ) → In t (about T a ls) → (u : Triple ℕ) × In u ls × (t ≡ (u.predicate, u.object))
    about_in a [] t i = elim i [ ]
    about_in a (u ∷ ls) t i = go (eqb u.subject a) i (λ j. about_in a ls t j)
      where
        go : (b : Bool) → In t (cond b ((u.predicate, u.object) ∷ about T a ls) (about T a ls))
            → (In t (about T a ls) → (w : Triple ℕ) × In w ls × (t ≡ (w.predicate, w.object))) → (w : Triple ℕ) × In w (u ∷ ls) × (t ≡ (w.predicate, w.object))
        go true (inl j) g = (u, inl refl, j)
        go true (inr j) g = let w = g j in (w.0, inr w.1, w.2)
        go false j g = let w = g j in (w.0, inr w.1, w.2)

    about_by : (a : ℕ) → valid a ≡ true → (ls : List (Triple ℕ)) → AllNumbers ls
        → about by_bytes (f a) (renamed ls) ≡ each (λ t. (f t.0, f t.1)) (about T a ls)
    about_by a e [] k = refl
    about_by a e (u ∷ ls) k = go (eqb u.subject a) (named_apart ts r.once u.subject a (k u (inl refl)).0 e) (about_by a e ls (λ t j. k t (inr j)))
      where
        more : Bool → List (Term × Term)
        more b = cond b ((f u.predicate, f u.object) ∷ about by_bytes (f a) (renamed ls)) (about by_bytes (f a) (renamed ls))

        go : (b : Bool) → by_bytes.same (f u.subject) (f a) ≡ b → about by_bytes (f a) (renamed ls) ≡ each (λ t. (f t.0, f t.1)) (about T a ls)
            → more (by_bytes.same (f u.subject) (f a))
            ≡ each (λ t. (f t.0, f t.1)) (cond b ((u.predicate, u.object) ∷ about T a ls) (about T a ls))
        go true g ih = ap more g ∙ ap (◌∷◌ (f u.predicate, f u.object)) ih
        go false g ih = ap more g ∙ ih

    pub contexts : (U : List ℕ) (V : List Term) (a : ℕ) → valid a ≡ true
        → (graph_in v s V).context (f a) ≡ each (λ t. (f t.0, f t.1)) ((graph_on h U).context a)
    contexts U V a e = by_test (on_shelf h a)
        (λ i. ap (λ b. cond b (about by_bytes (f a) (found_in (f a))) []) (sym (iri_named a) ∙ i)
        ∙ ap (about by_bytes (f a)) (documents a e) ∙ about_by a e (found_on h a) (found_valid a)
        ∙ sym (ap (λ b. each (λ t. (f t.0, f t.1)) (cond b (about T a (found_on h a)) [])) i))
        (λ i. ap (λ b. cond b (about by_bytes (f a) (found_in (f a))) []) (sym (iri_named a) ∙ i)
        ∙ sym (ap (λ b. each (λ t. (f t.0, f t.1)) (cond b (about T a (found_on h a)) [])) i))

    said_valid : (U : List ℕ) (a : ℕ) (t : ℕ × ℕ) → In t ((graph_on h U).context a) → (valid t.0 ≡ true) × (valid t.1 ≡ true)
    said_valid U a t i = go (on_shelf h a) i
      where
        go : (b : Bool) → In t (cond b (about T a (found_on h a)) []) → (valid t.0 ≡ true) × (valid t.1 ≡ true)
        go true j =
            let u = about_in a (found_on h a) t j in
            let k = found_valid a u.0 u.1 in
            (ap (λ z. valid z.0) u.2 ∙ k.1, ap (λ z. valid z.1) u.2 ∙ k.2)
        go false j = elim j [ ]

    -- ---- universes

    x : Exact T
    x = numbers_exact (on_shelf h)

    listed_terms : (ls : List (Triple ℕ)) → terms_listed (renamed ls) ≡ each f (terms_listed ls)
    listed_terms [] = refl
    listed_terms (u ∷ ls) = ap (λ k. f u.subject ∷ f u.predicate ∷ f u.object ∷ k) (listed_terms ls)

    terms_valid : (ls : List (Triple ℕ)) → AllNumbers ls → (a : ℕ) → In a (terms_listed ls) → valid a ≡ true
    terms_valid [] k a i = elim i [ ]
    terms_valid (u ∷ ls) k a (inl j) = ap valid j ∙ (k u (inl refl)).0
    terms_valid (u ∷ ls) k a (inr (inl j)) = ap valid j ∙ (k u (inl refl)).1
    terms_valid (u ∷ ls) k a (inr (inr (inl j))) = ap valid j ∙ (k u (inl refl)).2
    terms_valid (u ∷ ls) k a (inr (inr (inr j))) = terms_valid ls (λ t i. k t (inr i)) a j

    has_by : (a : ℕ) (ls : List ℕ) → valid a ≡ true → ((b : ℕ) → In b ls → valid b ≡ true) → has by_bytes (f a) (each f ls) ≡ has T a ls
    has_by a [] e k = refl
    has_by a (b ∷ ls) e k = ap₂ ◌||◌ (named_apart ts r.once a b e (k b (inl refl))) (has_by a ls e (λ c i. k c (inr i)))

    distinct_by : (ls : List ℕ) → ((b : ℕ) → In b ls → valid b ≡ true) → Distinct T ls → Distinct by_bytes (each f ls)
    distinct_by [] k d = tt
    distinct_by (a ∷ ls) k d = (has_by a ls (k a (inl refl)) (λ b i. k b (inr i)) ∙ d.0, distinct_by ls (λ b i. k b (inr i)) d.1)

    module _ (p : Pattern ℕ ℕ) (pv : (n : ℕ) → In n (terms_in p) → valid n ≡ true) (U : List ℕ) (u : Universe T (found_on h) p U) where
      met_valid : (a : ℕ) → Met T (found_on h) p a → valid a ≡ true
      met_valid a (inl i) = pv a (has_in x a (terms_in p) i)
      met_valid a (inr i) = terms_valid (found_on h i.0) (found_valid i.0) a (has_in x a (terms_listed (found_on h i.0)) i.2)

      pub universe_valid : (a : ℕ) → In a U → valid a ≡ true
      universe_valid a i = met_valid a (u.none_else a (in_has x a U i))

      named_in : (a : ℕ) → has T a U ≡ true → has by_bytes (f a) (each f U) ≡ true
      named_in a e = in_has by_bytes_exact (f a) (each f U) (in_each f U a (has_in x a U e))

      all_met : (y : Term) → Met by_bytes found_in (pattern_by f p) y → has by_bytes y (each f U) ≡ true
      all_met y (inl i) =
          let a = each_in f (terms_in p) y (subst (λ k. In y k) (terms_by f p) (has_in by_bytes_exact y (terms_in (pattern_by f p)) i)) in
          subst (λ z. has by_bytes z (each f U) ≡ true) (sym a.2) (named_in a.0 (u.all a.0 (inl (in_has x a.0 (terms_in p) a.1))))
      all_met y (inr i) = by_test (has by_bytes i.0 (fit ts s.entries))
          (λ e. let n = fit_entry 0 s.entries r.entries i.0 (has_in by_bytes_exact i.0 (fit ts s.entries) e) in
          let at : found_in i.0 ≡ renamed (found_on h n.0) = ap found_in n.2 ∙ documents n.0 n.1 in
          let k = has_in by_bytes_exact y (terms_listed (found_in i.0)) i.2 in
          let a = each_in f (terms_listed (found_on h n.0)) y (subst (λ z. In y z) (ap terms_listed at ∙ listed_terms (found_on h n.0)) k) in
          subst (λ z. has by_bytes z (each f U) ≡ true) (sym a.2)
          (named_in a.0 (u.all a.0 (inr (
            n.0,
            iri_named n.0 ∙ ap (λ (z : Term). is_iri_kind z.kind) (sym n.2) ∙ i.1,
            in_has x a.0 (terms_listed (found_on h n.0)) a.1,
          )))))
          (λ e. elim (has_in by_bytes_exact y [] (subst (λ b. has by_bytes y (terms_listed (cond b (triples (tells_by v i.0)) [])) ≡ true) e i.2)) [ ])

      met_back : (a : ℕ) → Met T (found_on h) p a → Met by_bytes found_in (pattern_by f p) (f a)
      met_back a (inl i) = inl (in_has by_bytes_exact (f a) (terms_in (pattern_by f p))
          (subst (λ k. In (f a) k) (sym (terms_by f p)) (in_each f (terms_in p) a (has_in x a (terms_in p) i))))
      met_back a (inr i) =
          let iri : is_iri_kind (f i.0).kind ≡ true = sym (iri_named i.0) ∙ i.1 in
          inr (
            f i.0,
            iri,
            in_has by_bytes_exact (f a) (terms_listed (found_in (f i.0)))
                (subst (λ k. In (f a) k) (sym (ap terms_listed (documents i.0 (iri_number ts i.0 iri)) ∙ listed_terms (found_on h i.0)))
                (in_each f (terms_listed (found_on h i.0)) a (has_in x a (terms_listed (found_on h i.0)) i.2))),
          )

      pub universe_by : Universe by_bytes (documents_of v s) (pattern_by f p) (each f U)
      universe_by = record {
        distinct = distinct_by U universe_valid u.distinct;
        all = all_met;
        none_else = λ y e. (let a = each_in f U y (has_in by_bytes_exact y (each f U) e) in
            subst (λ z. Met by_bytes found_in (pattern_by f p) z) (sym a.2) (met_back a.0 (u.none_else a.0 (in_has x a.0 U a.1))));
      }

      pub to_terms : (V : List Term) → Faithful (terms_on h) by_bytes (is_number s.terms) (named s.terms) (graph_on h U) (graph_in v s V).context
      to_terms V = record {
        apart = λ a b i j. named_apart ts r.once a b i j;
        iris = λ a i. sym (iri_named a);
        terms = universe_valid;
        predicates = λ a t i. (said_valid U a t i).0;
        objects = λ a t i. (said_valid U a t i).1;
        contexts = contexts U V;
      }

      pub closed_on : Closed T (graph_on h U)
      closed_on = web_closed x (found_on h) p U u

      pub closed_in : Closed by_bytes (graph_in v s (each f U))
      closed_in = web_closed by_bytes_exact (documents_of v s) (pattern_by f p) (each f U) universe_by

      -- that a number leads back says the same as that a term is the session's
      same_valid : (t : Term)
          → leads_back x by_bytes_exact valid f (number_of ts) (number_named ts r.once) (graph_on h U) (graph_in v s (each f U)).context
          (to_terms (each f U)) closed_in t
          ≡ is_known ts t
      same_valid t = by_test (is_known ts t)
          (λ e. ap₂ ◌&&◌ e (ap (λ z. by_bytes.same z t) (named_number ts t (term_positive ts t e)) ∙ by_bytes_exact.told t) ∙ sym e)
          (λ e. ap (λ b. b && by_bytes.same (f (number_of ts t)) t) e ∙ sym e)
        where
          term_positive : (us : List Term) (t : Term) → is_known us t ≡ true → 0 < number_of us t
          term_positive us t e = go (number_of us t) refl
            where
              zero_not : (us : List Term) → is_number us 0 ≡ false
              zero_not [] = refl
              zero_not (y ∷ us) = refl

              go : (n : ℕ) → number_of us t ≡ n → 0 < number_of us t
              go zero g = clash (sym (ap (is_number us) g) ∙ e) (zero_not us)
              go (suc n) g = omega (arith, g)

      pub to_numbers : Faithful by_bytes (terms_on h) (is_known s.terms) (number_of s.terms) (graph_in v s (each f U)) (graph_on h U).context
      to_numbers =
          subst (λ w. Faithful by_bytes (terms_on h) w (number_of s.terms) (graph_in v s (each f U)) (graph_on h U).context) (fun_ext same_valid)
          (faithful_back x by_bytes_exact valid f (number_of ts) (number_named ts r.once) (graph_on h U) (graph_in v s (each f U)).context
          (to_terms (each f U)) closed_in)

-- ---- laws

pub numbers_count : NumbersCount
numbers_count [] zero = refl
numbers_count [] (suc n) = past n
  where
    past : (n : ℕ) → false ≡ ltb 0 (suc n) && leb (suc n) 0
    past n = grind arith
numbers_count (t ∷ us) zero = refl
numbers_count (t ∷ us) (suc zero) = one (length us)
  where
    one : (m : ℕ) → true ≡ ltb 0 1 && leb 1 (suc m)
    one m = grind arith
numbers_count (t ∷ us) (suc (suc n)) = numbers_count us (suc n) ∙ next n (length us)
  where
    next : (n m : ℕ) → ltb 0 (suc n) && leb (suc n) m ≡ ltb 0 (suc (suc n)) && leb (suc (suc n)) (suc m)
    next n m = grind arith

pub documents_are_the_webs : DocumentsAreTheWebs
documents_are_the_webs v s h r l n e = documents v s r h l n e

pub contexts_are_the_webs : ContextsAreTheWebs
contexts_are_the_webs v s h r l V n e =
    contexts v s r h l [] V n e ∙ ap (λ c. each (λ t. (named s.terms t.0, named s.terms t.1)) (c n)) (same_contexts h [])

pub graphs_are_namesakes : GraphsAreNamesakes
graphs_are_namesakes v s h p U a = record {
  to_terms = to_terms v s a.recorded h a.lends p a.numbers U a.universe (each (named s.terms) U);
  to_numbers = to_numbers v s a.recorded h a.lends p a.numbers U a.universe;
  universe = universe_by v s a.recorded h a.lends p a.numbers U a.universe;
}
