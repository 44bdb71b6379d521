-- A closure's table ends with all that is reached from its first row: every row in it was followed, and 257 turns suffice for 256 rows.
use Rattle.std.proofs.Common.{◌≡◌, ℕ, zero, suc, ◌+◌, Bool, true, ◌⊎◌, List, [], ◌∷◌, ◌++◌, length, Some, None, Option, sym, refl, ap, ◌∙◌, subst, inl, inr, append_assoc, arith, length-append}
use Rattle.weights.specs.Scales.{Scale}
use Rattle.semantics.specs.Terms.{Terms, Exact, In}
use Rattle.semantics.specs.Rows.{Row}
use Rattle.semantics.specs.Bags.{Bag}
use Rattle.semantics.proofs.Lists.{in_left, in_right, in_either}
use Rattle.walks.specs.Crowds.{Crowd}
use Rattle.tables.specs.Held.{nth}
use Rattle.solving.specs.Solved.{then, or_else, plain, filled, closed}
use Rattle.walks.proofs.Crowding.{crowd_more}
use Rattle.answering.specs.Promises.{rows_in}
use Rattle.answering.proofs.Tables.{Tidy, Neat, rows_append}
use Rattle.answering.proofs.Holding.{Table, Holds, Plain, Grown, filled_grown}
use Rattle.answering.proofs.Folds.{Done, Solves}

nth_here : {X : Type 0} (done rest : List X) (e : X) → nth (done ++ e ∷ rest) (length done) ≡ Some e
nth_here [] rest e = refl
nth_here (d ∷ done) rest e = nth_here done rest e

nth_end : {X : Type 0} (done : List X) → nth (done ++ []) (length done) ≡ None
nth_end [] = refl
nth_end (d ∷ done) = nth_end done

at_end : {X : Type 0} (done : List X) → done ++ [] ≡ done
at_end [] = refl
at_end (d ∷ done) = ap (◌∷◌ d) (at_end done)

module _ {A : Type 0} {T : Terms A} (x : Exact T) (context : A → List (A × A)) {K : Type 0} (s : Scale K)
    (step : Row A → List A → Option (List A × Bag A K)) (together : Row A × K → Bag A K → Bag A K)
    (make : A → Row A) (next : A → A → Bool) (reach : A → Bool) (first : A)
    (bad : A → Type 0) (read : A → A → Type 0) (sum : A → (Row A → K) → K) (row : A → Row A → Type 0)
    (injective : (a b : A) → make a ≡ make b → a ≡ b) (tidy : (a : A) → Tidy (make a))
    (start : reach first ≡ true) (onward : (m b : A) → reach m ≡ true → next m b ≡ true → reach b ≡ true)
    (solves : (m : A) → reach m ≡ true → (seen : List A) → Solves s (bad m) (read m) (sum m) (row m) seen (step (make m) seen))
    (neat : (e : Row A × K) (m : A) → e.0 ≡ make m → (C : Bag A K) → Holds s (sum m) (row m) C → Neat (together e C))
    (sound : (e : Row A × K) (m : A) → e.0 ≡ make m → (C : Bag A K) → Holds s (sum m) (row m) C → (c : Row A) → In c (rows_in (together e C))
    → (b : A) × (next m b ≡ true) × (c ≡ make b))
    (complete : (e : Row A × K) (m : A) → e.0 ≡ make m → (C : Bag A K) → Holds s (sum m) (row m) C → (b : A) → next m b ≡ true → In (make b) (rows_in (together e C)))
    (least : (B : List (Row A)) → In (make first) B → ((m b : A) → next m b ≡ true → In (make m) B → In (make b) B) → (m : A) → reach m ≡ true → In (make m) B) where
  abbrev pub ReachRow : Row A → Type 0
  ReachRow c = (m : A) × (reach m ≡ true) × (c ≡ make m)

  abbrev pub ReachSome : (A → Type 0) → Type 0
  ReachSome P = (m : A) × (reach m ≡ true) × P m

  pub record Closes (seen : List A) (o : List A × Bag A K) : Type 0 where
    pub plain : Plain s ReachRow o.1
    pub reads : (i : A) → In i o.0 → In i seen ⊎ ReachSome (λ m. read m i)
    pub kept : (i : A) → In i seen ⊎ ReachSome (λ m. read m i) → In i o.0
    pub calm : (m : A) → reach m ≡ true → bad m → ⊥

  abbrev pub Closing : List A → Option (List A × Bag A K) → Type 0
  Closing seen None = ReachSome bad ⊎ Crowd ReachRow
  Closing seen (Some o) = Closes seen o

  -- what was followed and what is still to be
  record Turn (seen : List A) (done todo : Bag A K) (now : List A) : Type 0 where
    table : Table (done ++ todo)
    ones : (e : Row A × K) → In e (done ++ todo) → e.1 ≡ s.one
    rows : (c : Row A) → In c (rows_in (done ++ todo)) → ReachRow c
    begun : In (make first) (rows_in (done ++ todo))
    followed : (m b : A) → In (make m) (rows_in done) → next m b ≡ true → In (make b) (rows_in (done ++ todo))
    reads : (i : A) → In i now → In i seen ⊎ ((m : A) × In (make m) (rows_in done) × read m i)
    kept : (i : A) → In i seen ⊎ ((m : A) × In (make m) (rows_in done) × read m i) → In i now
    calm : (m : A) → In (make m) (rows_in done) → bad m → ⊥

  ended : (seen : List A) (done : Bag A K) (now : List A) → Turn seen done [] now → Closes seen (now, done ++ [])
  ended seen done now t = record {
    plain = record { table = t.table; ones = t.ones; sound = t.rows; complete = λ c i. subst (λ z. In z (rows_in (done ++ []))) (sym i.2) (all i.0 i.1) };
    reads = λ i j. elim (t.reads i j) [
      | inl k ↦ inl k
      | inr k ↦ inr (k.0, known k.0 k.1, k.2)
    ];
    kept = λ i j. t.kept i (elim j [ inl k ↦ inl k | inr k ↦ inr (k.0, back k.0 (all k.0 k.1), k.2) ]);
    calm = λ m r b. t.calm m (back m (all m r)) b;
  }
    where
      back : (m : A) → In (make m) (rows_in (done ++ [])) → In (make m) (rows_in done)
      back m i = subst (λ z. In (make m) (rows_in z)) (at_end done) i

      over : (m : A) → In (make m) (rows_in done) → In (make m) (rows_in (done ++ []))
      over m i = subst (λ z. In (make m) (rows_in z)) (sym (at_end done)) i

      all : (m : A) → reach m ≡ true → In (make m) (rows_in (done ++ []))
      all m r = least (rows_in (done ++ [])) t.begun (λ u v e i. t.followed u v (back u i) e) m r

      known : (m : A) → In (make m) (rows_in done) → reach m ≡ true
      known m i = let r = t.rows (make m) (over m i) in subst (λ z. reach z ≡ true) (sym (injective m r.0 r.2)) r.1

  split : (done rest : Bag A K) (e : Row A × K) → done ++ e ∷ rest ≡ (done ++ e ∷ []) ++ rest
  split [] rest e = refl
  split (d ∷ done) rest e = ap (◌∷◌ d) (split done rest e)

  -- one row of the list behind
  behind : (done : Bag A K) (e : Row A × K) (c : Row A) → In c (rows_in (done ++ e ∷ [])) → In c (rows_in done) ⊎ (c ≡ e.0)
  behind done e c i =
      elim (in_either c (rows_in done) (e.0 ∷ []) (subst (λ l. In c l) (rows_append done (e ∷ [])) i)) [
        | inl j ↦ inl j
        | inr j ↦ elim j [ inl k ↦ inr k | inr k ↦ elim k [ ] ]
      ]

  before : (done : Bag A K) (e : Row A × K) (c : Row A) → In c (rows_in done) ⊎ (c ≡ e.0) → In c (rows_in (done ++ e ∷ []))
  before done e c i = subst (λ l. In c l) (sym (rows_append done (e ∷ [])))
      (elim i [ inl j ↦ in_left c (rows_in done) (e.0 ∷ []) j | inr j ↦ in_right c (rows_in done) (e.0 ∷ []) (inl j) ])

  itself_plain : (B : Bag A K) → Table B → ((e : Row A × K) → In e B → e.1 ≡ s.one) → Plain s (λ c. In c (rows_in B)) B
  itself_plain B t o = record { table = t; ones = o; sound = λ a i. i; complete = λ a i. i }

  module _ (seen : List A) (done rest : Bag A K) (e : Row A × K) (now : List A) (t : Turn seen done (e ∷ rest) now)
      (m : A) (r : reach m ≡ true) (h : e.0 ≡ make m) (o : List A × Bag A K) (d : Done s (bad m) (read m) (sum m) (row m) now o) where
    abbrev B : Bag A K
    B = done ++ e ∷ rest

    abbrev L : Bag A K
    L = together e o.1

    -- the next turn, with the table C that has M more behind
    turned : (C M : Bag A K) → Plain s (λ c. In c (rows_in B) ⊎ In c (rows_in L)) C → C ≡ B ++ M → (done ++ e ∷ []) ++ (rest ++ M) ≡ C
        → Turn seen (done ++ e ∷ []) (rest ++ M) o.0
    turned C M p q z = record {
      table = subst Table (sym z) p.table;
      ones = λ c i. p.ones c (subst (λ l. In c l) z i);
      rows = λ c i. elim (p.sound c (subst (λ l. In c (rows_in l)) z i)) [
        | inl j ↦ t.rows c j
        | inr j ↦ (let w = sound e m h o.1 d.holds c j in (w.0, onward m w.0 r w.1, w.2))
      ];
      begun = into (make first) (inl t.begun);
      followed = λ u v i n. elim (behind done e (make u) i) [
        | inl j ↦ into (make v) (inl (t.followed u v j n))
        | inr j ↦ into (make v) (inr (complete e m h o.1 d.holds v (subst (λ k. next k v ≡ true) (injective u m (j ∙ h)) n)))
      ];
      reads = λ i j. elim (d.reads i j) [
        | inl k ↦ elim (t.reads i k) [ inl l ↦ inl l | inr l ↦ inr (l.0, before done e (make l.0) (inl l.1), l.2) ]
        | inr k ↦ inr (m, before done e (make m) (inr (sym h)), k)
      ];
      kept = λ i j. d.kept i (elim j [
        | inl k ↦ inl (t.kept i (inl k))
        | inr k ↦ elim (behind done e (make k.0) k.1) [
          | inl l ↦ inl (t.kept i (inr (k.0, l, k.2)))
          | inr l ↦ inr (subst (λ u. read u i) (injective k.0 m (l ∙ h)) k.2)
        ]
      ]);
      calm = λ u i b. elim (behind done e (make u) i) [
        | inl j ↦ t.calm u j b
        | inr j ↦ d.calm (subst bad (injective u m (j ∙ h)) b)
      ];
    }
      where
        into : (c : Row A) → In c (rows_in B) ⊎ In c (rows_in L) → In c (rows_in ((done ++ e ∷ []) ++ (rest ++ M)))
        into c i = subst (λ l. In c (rows_in l)) (sym z) (p.complete c i)

    crowded : Crowd (λ c. In c (rows_in B) ⊎ In c (rows_in L)) → Crowd ReachRow
    crowded c = crowd_more _ ReachRow (λ a i. elim i [
      | inl j ↦ t.rows a j
      | inr j ↦ (let w = sound e m h o.1 d.holds a j in (w.0, onward m w.0 r w.1, w.2))
    ]) c

    after_filled : (k : Bag A K → Option (List A × Bag A K)) (v : Option (Bag A K))
        → ((C M : Bag A K) → C ≡ (done ++ e ∷ []) ++ (rest ++ M) → Turn seen (done ++ e ∷ []) (rest ++ M) o.0 → Closing seen (k C))
        → Grown s B (λ c. In c (rows_in B) ⊎ In c (rows_in L)) v → Closing seen (then v k)
    after_filled k None n g = inr (crowded g)
    after_filled k (Some C) n g =
        let z = g.1.1 ∙ ap (λ l. l ++ g.1.0) (split done rest e) ∙ append_assoc (done ++ e ∷ []) rest g.1.0 in
        n C g.1.0 z (turned C g.1.0 g.0 g.1.1 (sym z))

  abbrev follow : ℕ → List A → Bag A K → ℕ → Row A × K → Option (List A × Bag A K)
  follow n now B i d =
      then (step d.0 now) (λ o. then (filled T s (plain T s (together d o.1)) B) (λ C. closed T s context ◌∷◌ step together n (i + 1) C o.0))

  closes : (n : ℕ) (seen : List A) (done todo : Bag A K) (now : List A) → Turn seen done todo now → length done + n ≡ 257
      → Closing seen (closed T s context ◌∷◌ step together n (length done) (done ++ todo) now)
  unfolding closed
  closes zero seen done todo now t e = absurd (let l = t.table.few in let q = length-append done todo in omega (arith, l, q, e))
  closes (suc n) seen done [] now t e =
      subst (λ z. Closing seen (or_else z (Some (now, done ++ [])) (follow n now (done ++ []) (length done)))) (sym (nth_end done)) (ended seen done now t)
  closes (suc n) seen done (d ∷ rest) now t e =
      subst (λ z. Closing seen (or_else z (Some (now, done ++ d ∷ rest)) (follow n now (done ++ d ∷ rest) (length done)))) (sym (nth_here done rest d))
      (turn (step d.0 now) (subst (λ z. Solves s (bad w.0) (read w.0) (sum w.0) (row w.0) now (step z now)) (sym w.2) (solves w.0 w.1 now))
      (λ C M z l u. subst (λ i. Closing seen (closed T s context ◌∷◌ step together n i C l)) long
      (subst (λ B. Closing seen (closed T s context ◌∷◌ step together n (length (done ++ d ∷ [])) B l)) (sym z)
      (closes n seen (done ++ d ∷ []) (rest ++ M) l u (let q = length-append done (d ∷ []) in omega (arith, q, e))))))
    where
      w : ReachRow d.0
      w = t.rows d.0 (subst (λ l. In d.0 l) (sym (rows_append done (d ∷ rest))) (in_right d.0 (rows_in done) (d.0 ∷ rows_in rest) (inl refl)))

      long : length (done ++ d ∷ []) ≡ length done + 1
      long = length-append done (d ∷ [])

      turn : (v : Option (List A × Bag A K)) → Solves s (bad w.0) (read w.0) (sum w.0) (row w.0) now v
          → ((C M : Bag A K) → C ≡ (done ++ d ∷ []) ++ (rest ++ M) → (l : List A) → Turn seen (done ++ d ∷ []) (rest ++ M) l
          → Closing seen (closed T s context ◌∷◌ step together n (length done + 1) C l))
          → Closing seen (then v (λ o. then (filled T s (plain T s (together d o.1)) (done ++ d ∷ rest)) (λ C. closed T s context ◌∷◌ step together n (length done + 1) C o.0)))
      turn None h k = inl (w.0, w.1, h)
      turn (Some o) h k =
          after_filled seen done rest d now t w.0 w.1 w.2 o h (λ C. closed T s context ◌∷◌ step together n (length done + 1) C o.0)
          (filled T s (plain T s (together d o.1)) (done ++ d ∷ rest))
          (λ C M z u. k C M z o.0 u)
          (filled_grown x s context (together d o.1) (λ c. In c (rows_in (done ++ d ∷ rest))) (done ++ d ∷ rest)
          (neat d w.0 w.2 o.1 h.holds) (itself_plain (done ++ d ∷ rest) t.table t.ones))

  -- from the first row alone
  pub closure : (seen : List A) → Closing seen (closed T s context ◌∷◌ step together 257 0 ((make first, s.one) ∷ []) seen)
  closure seen = closes 257 seen [] ((make first, s.one) ∷ []) seen (record {
    table = record { once = ((λ i. i), tt); few = omega arith; neat = λ a i. elim i [ inl j ↦ subst Tidy (sym j) (tidy first) | inr j ↦ elim j [ ] ] };
    ones = λ e i. elim i [ inl j ↦ ap (λ z. z.1) j | inr j ↦ elim j [ ] ];
    rows = λ c i. elim i [ inl j ↦ (first, start, j) | inr j ↦ elim j [ ] ];
    begun = inl refl;
    followed = λ m b i e. elim i [ ];
    reads = λ i j. inl j;
    kept = λ i j. elim j [ inl k ↦ k | inr k ↦ elim k.1 [ ] ];
    calm = λ m i. elim i [ ];
  }) refl
