-- Every Web has its universe, since there are finitely many IRIs; and its graph is closed.
use Rattle.std.proofs.Common.{◌≡◌, ℕ, zero, suc, ◌<◌, ◌≤◌, Bool, true, false, cond, ◌||◌, eqb, ltb, leb, ◌⊎◌, List, [], ◌∷◌, ◌++◌, length, sym, refl, ap, ◌∙◌, subst, inl, inr, arith}
use Rattle.std.proofs.lemmas.Bool.{and_parts, or_cases}
use Rattle.terms.specs.declared.kind.Kind.{Kind}
use Rattle.terms.specs.declared.kind.Kind.TheVariants.{Iri, Literal}
use Rattle.terms.specs.Bytes.{between, iri_byte}
use Rattle.terms.specs.Terms.{Term}
use Rattle.grammar.specs.Syntax.{Pattern}
use Rattle.semantics.specs.Terms.{Terms, Exact, In, gather, has, Distinct}
use Rattle.semantics.specs.Graphs.{Closed}
use Rattle.semantics.specs.Webs.{Triple, terms_in, terms_listed, about, graph_of, Met, Universe, is_iri_kind, by_bytes, all_bytes, lawful_iri}
use Rattle.semantics.specs.Laws.{EveryWebHasItsUniverse}
use Rattle.semantics.proofs.Lists.{clash, iff, by_test, in_left, in_right, in_either, in_gather, gather_in, has_in, in_has}
use Rattle.semantics.proofs.Bytes.{by_bytes_exact}

-- ---- lists without repeats

module _ {A : Type 0} {T : Terms A} (x : Exact T) where
  abbrev pub unique : List A → List A
  unique [] = []
  unique (a ∷ l) = cond (has T a (unique l)) (unique l) (a ∷ unique l)

  pub unique_distinct : (l : List A) → Distinct T (unique l)
  unique_distinct [] = tt
  unique_distinct (a ∷ l) = pick (has T a (unique l)) refl (unique_distinct l)
    where
      pick : (b : Bool) → has T a (unique l) ≡ b → Distinct T (unique l) → Distinct T (cond b (unique l) (a ∷ unique l))
      pick true e d = d
      pick false e d = (e, d)

  pub unique_has : (c : A) (l : List A) → has T c (unique l) ≡ has T c l
  unique_has c [] = refl
  unique_has c (a ∷ l) = pick (has T a (unique l)) refl (unique_has c l)
    where
      pick : (b : Bool) → has T a (unique l) ≡ b → has T c (unique l) ≡ has T c l → has T c (cond b (unique l) (a ∷ unique l)) ≡ T.same c a || has T c l
      pick true e d = by_test (T.same c a)
          (λ s. ap (λ z. has T z (unique l)) (x.tells c a s) ∙ e ∙ sym (ap (λ t. t || has T c l) s))
          (λ s. d ∙ sym (ap (λ t. t || has T c l) s))
      pick false e d = ap (λ t. T.same c a || t) d

  -- ---- a Web's graph

  pub about_in : (a : A) (l : List (Triple A)) (t : A × A) → In t (about T a l) → In a (terms_listed l) × In t.1 (terms_listed l)
  about_in a [] t i = elim i [ ]
  about_in a (r ∷ l) t i = pick (T.same r.subject a) refl i (λ j. about_in a l t j)
    where
      later : In a (terms_listed l) × In t.1 (terms_listed l) → In a (terms_listed (r ∷ l)) × In t.1 (terms_listed (r ∷ l))
      later h = (inr (inr (inr h.0)), inr (inr (inr h.1)))

      pick : (b : Bool) → T.same r.subject a ≡ b → In t (cond b ((r.predicate, r.object) ∷ about T a l) (about T a l))
          → (In t (about T a l) → In a (terms_listed l) × In t.1 (terms_listed l)) → In a (terms_listed (r ∷ l)) × In t.1 (terms_listed (r ∷ l))
      pick true e (inl j) h = (inl (sym (x.tells r.subject a e)), inr (inr (inl (ap (λ z. z.1) j))))
      pick true e (inr j) h = later (h j)
      pick false e j h = later (h j)

  module _ {V : Type 0} (found : A → List (Triple A)) (p : Pattern A V) (U : List A) (u : Universe T found p U) where
    in_context : (a : A) (t : A × A) → In t ((graph_of T found U).context a) → (has T a U ≡ true) × (has T t.1 U ≡ true)
    in_context a t i = pick (T.is_iri a) refl i
      where
        pick : (b : Bool) → T.is_iri a ≡ b → In t (cond b (about T a (found a)) []) → (has T a U ≡ true) × (has T t.1 U ≡ true)
        pick true e j =
            let h = about_in a (found a) t j in
            (u.all a (inr (a, e, in_has x a (terms_listed (found a)) h.0)), u.all t.1 (inr (a, e, in_has x t.1 (terms_listed (found a)) h.1)))
        pick false e j = elim j [ ]

    pub web_closed : Closed T (graph_of T found U)
    web_closed = record {
      distinct = u.distinct;
      subjects = λ a t i. (in_context a t i).0;
      objects = λ a t i. (in_context a t i).1;
      iris = λ a e. ap (λ b. cond b (about T a (found a)) []) e;
    }

  pub same_universe : {V : Type 0} (found : A → List (Triple A)) (p : Pattern A V) (U W : List A) → Universe T found p U → Universe T found p W
      → (a : A) → has T a U ≡ has T a W
  same_universe found p U W u w a = iff (has T a U) (has T a W) (λ e. w.all a (u.none_else a e)) (λ e. u.all a (w.none_else a e))

-- ---- all words over some bytes, up to a length

pub below : ℕ → List ℕ
below zero = []
below (suc n) = n ∷ below n

in_below : (n b : ℕ) → b < n → In b (below n)
unfolding below
in_below zero b h = absurd (omega arith)
in_below (suc n) b h = by_test (eqb b n) (λ e. inl (grind arith)) (λ e. inr (in_below n b (grind arith)))

put : ℕ → List (List ℕ) → List (List ℕ)
put b [] = []
put b (w ∷ ws) = (b ∷ w) ∷ put b ws

in_put : (b : ℕ) (w : List ℕ) (ws : List (List ℕ)) → In w ws → In (b ∷ w) (put b ws)
unfolding put
in_put b w [] i = elim i [ ]
in_put b w (v ∷ ws) (inl i) = inl (ap (◌∷◌ b) i)
in_put b w (v ∷ ws) (inr i) = inr (in_put b w ws i)

pub words : List ℕ → ℕ → List (List ℕ)
words bs zero = [] ∷ []
words bs (suc n) = [] ∷ gather (λ b. put b (words bs n)) bs

in_words : (bs : List ℕ) (ok : ℕ → Bool) → ((b : ℕ) → ok b ≡ true → In b bs)
    → (n : ℕ) (w : List ℕ) → all_bytes ok w ≡ true → length w ≤ n → In w (words bs n)
unfolding words
in_words bs ok h zero [] a l = inl refl
in_words bs ok h zero (b ∷ w) a l = absurd (omega arith)
in_words bs ok h (suc n) [] a l = inl refl
in_words bs ok h (suc n) (b ∷ w) a l =
    let e = and_parts (ok b) (all_bytes ok w) a in
    inr (gather_in (λ c. put c (words bs n)) bs b (b ∷ w) (h b e.0) (in_put b w (words bs n) (in_words bs ok h n w e.1 (omega arith))))

iri_below : (b : ℕ) → iri_byte b ≡ true → b < 256
iri_below b h =
    elim (or_cases (between 33 126 b) (between 128 255 b) (and_parts (between 33 126 b || between 128 255 b) _ h).0) [
      | inl e ↦ small 126 (and_parts (leb 33 b) (leb b 126) e).1 (omega arith)
      | inr e ↦ small 255 (and_parts (leb 128 b) (leb b 255) e).1 (omega arith)
    ]
  where
    small : (n : ℕ) → leb b n ≡ true → n < 256 → b < 256
    small n e k = grind arith

as_iris : List (List ℕ) → List Term
as_iris [] = []
as_iris (w ∷ ws) = record { kind = Iri; bytes = w } ∷ as_iris ws

in_iris : (w : List ℕ) (ws : List (List ℕ)) → In w ws → In {B = Term} (record { kind = Iri; bytes = w }) (as_iris ws)
unfolding as_iris
in_iris w [] i = elim i [ ]
in_iris w (v ∷ ws) (inl i) = inl (ap (λ z. record { kind = Iri; bytes = z }) i)
in_iris w (v ∷ ws) (inr i) = inr (in_iris w ws i)

pub iris : List Term
iris = as_iris (words (below 256) 128)

iri_term_lem : (t : Term) → is_iri_kind t.kind ≡ true → t ≡ record { kind = Iri; bytes = t.bytes }
iri_term_lem t e = pick t.kind t.bytes e
  where
    pick : (k : Kind) (w : List ℕ) → is_iri_kind k ≡ true → ◌≡◌ {A = Term} (record { kind = k; bytes = w }) (record { kind = Iri; bytes = w })
    pick Iri w e = refl
    pick Literal w e = clash e refl

pub all_iris : (t : Term) → lawful_iri t ≡ true → In t iris
unfolding iris
all_iris t e =
    let a = and_parts (is_iri_kind t.kind) _ e in
    let b = and_parts (ltb 0 (length t.bytes)) _ a.1 in
    let c = and_parts (leb (length t.bytes) 128) (all_bytes iri_byte t.bytes) b.1 in
    subst (λ z. In z (as_iris (words (below 256) 128))) (sym (iri_term_lem t a.0))
    (in_iris t.bytes (words (below 256) 128)
    (in_words (below 256) iri_byte (λ y h. in_below 256 y (iri_below y h)) 128 t.bytes c.1 (short (length t.bytes) c.0)))
  where
    short : (n : ℕ) → leb n 128 ≡ true → n ≤ 128
    short n h = grind arith

pub every_web_has_its_universe : {V : Type 0} → EveryWebHasItsUniverse V
every_web_has_its_universe found lawful p = (
  unique by_bytes_exact listed,
  record {
    distinct = unique_distinct by_bytes_exact listed;
    all = λ y m. unique_has by_bytes_exact y listed ∙ in_has by_bytes_exact y listed (in_it y m);
    none_else = λ y h. out y (in_either y (terms_in p) others (has_in by_bytes_exact y listed (sym (unique_has by_bytes_exact y listed) ∙ h)));
  },
)
  where
    others : List Term
    others = gather (λ i. terms_listed (found i)) iris

    listed : List Term
    listed = terms_in p ++ others

    nothing : (i y : Term) → lawful_iri i ≡ false → In y (terms_listed (found i)) → ⊥
    nothing i y e h = subst (λ l. In y (terms_listed l)) (lawful i e) h

    in_it : (y : Term) → Met by_bytes found p y → In y listed
    in_it y (inl h) = in_left y (terms_in p) others (has_in by_bytes_exact y (terms_in p) h)
    in_it y (inr h) =
        let j = has_in by_bytes_exact y (terms_listed (found h.0)) h.2 in
        in_right y (terms_in p) others (by_test (lawful_iri h.0)
        (λ e. gather_in (λ i. terms_listed (found i)) iris h.0 y (all_iris h.0 e) j)
        (λ e. absurd (nothing h.0 y e j)))

    out : (y : Term) → In y (terms_in p) ⊎ In y others → Met by_bytes found p y
    out y (inl i) = inl (in_has by_bytes_exact y (terms_in p) i)
    out y (inr i) =
        let r = in_gather (λ i. terms_listed (found i)) iris y i in
        inr (
          r.0,
          by_test (lawful_iri r.0) (λ e. (and_parts (is_iri_kind r.0.kind) _ e).0) (λ e. absurd (nothing r.0 y e r.2)),
          in_has by_bytes_exact y (terms_listed (found r.0)) r.2,
        )
