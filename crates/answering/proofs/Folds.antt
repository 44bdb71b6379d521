-- Outcomes: what an evaluation has read, what its table holds, and where it gives up; and how outcomes follow one another.
use Rattle.std.proofs.Common.{◌≡◌, ◌⊎◌, List, [], ◌∷◌, Some, None, Option, sym, refl, ap, ◌∙◌, subst, inl, inr}
use Rattle.weights.specs.Scales.{Scale, Fair}
use Rattle.semantics.specs.Terms.{Terms, Exact, In}
use Rattle.semantics.specs.Rows.{Row}
use Rattle.semantics.specs.Bags.{Bag}
use Rattle.semantics.proofs.Integrals.{integral}
use Rattle.walks.specs.Crowds.{Crowd}
use Rattle.solving.specs.Solved.{then, poured, each_of}
use Rattle.walks.proofs.Crowding.{crowd_more}
use Rattle.answering.specs.Promises.{rows_in}
use Rattle.answering.proofs.Tables.{Tidy, Neat}
use Rattle.semantics.proofs.Totals.{zero_sum}
use Rattle.answering.proofs.Holding.{table_empty, Holds, Filled, holds_calm, holds_same, poured_holds}

-- `bad` says that there is too much; `read`, which terms were read besides those seen before.
pub record Done {A K : Type 0} (s : Scale K) (bad : Type 0) (read : A → Type 0) (sum : (Row A → K) → K) (row : Row A → Type 0) (seen : List A) (o : List A × Bag A K) : Type 0 where
  pub holds : Holds s sum row o.1
  pub reads : (i : A) → In i o.0 → In i seen ⊎ read i
  pub kept : (i : A) → In i seen ⊎ read i → In i o.0
  pub calm : bad → ⊥

abbrev pub Solves : {A K : Type 0} → Scale K → Type 0 → (A → Type 0) → ((Row A → K) → K) → (Row A → Type 0) → List A → Option (List A × Bag A K) → Type 0
Solves s bad read sum row seen None = bad
Solves s bad read sum row seen (Some o) = Done s bad read sum row seen o

pub solves_same : {A K : Type 0} (s : Scale K) (bad bad' : Type 0) (read read' : A → Type 0) (sum sum' : (Row A → K) → K) (row row' : Row A → Type 0) (seen seen' : List A)
    (o : Option (List A × Bag A K)) → (bad → bad') → (bad' → bad)
    → ((i : A) → In i seen ⊎ read i → In i seen' ⊎ read' i) → ((i : A) → In i seen' ⊎ read' i → In i seen ⊎ read i)
    → ((g : Row A → K) → sum g ≡ sum' g) → ((a : Row A) → row a → row' a) → ((a : Row A) → row' a → row a)
    → Solves s bad read sum row seen o → Solves s bad' read' sum' row' seen' o
solves_same s bad bad' read read' sum sum' row row' seen seen' None b c r t e i j h = b h
solves_same s bad bad' read read' sum sum' row row' seen seen' (Some o) b c r t e i j h = record {
  holds = holds_same sum sum' row row' o.1 e i j h.holds;
  reads = λ k l. r k (h.reads k l);
  kept = λ k l. h.kept k (t k l);
  calm = λ z. h.calm (c z);
}

-- one outcome after another
pub solves_then : {A K : Type 0} (s : Scale K) (bad bad' : Type 0) (read read' : A → Type 0) (sum sum' : (Row A → K) → K) (row row' : Row A → Type 0) (seen : List A)
    (o : Option (List A × Bag A K)) (k : List A × Bag A K → Option (List A × Bag A K))
    → ((d : List A × Bag A K) → Holds s sum row d.1 → Solves s bad' read' sum' row' d.0 (k d))
    → Solves s bad read sum row seen o → Solves s (bad ⊎ bad') (λ i. read i ⊎ read' i) sum' row' seen (then o k)
solves_then s bad bad' read read' sum sum' row row' seen None k h c = inl c
solves_then s bad bad' read read' sum sum' row row' seen (Some d) k h c = after (k d) (h d c.holds)
  where
    after : (o : _) → Solves s bad' read' sum' row' d.0 o → Solves s (bad ⊎ bad') (λ i. read i ⊎ read' i) sum' row' seen o
    after None z = inr z
    after (Some e) z = record {
      holds = z.holds;
      reads = λ i l. elim (z.reads i l) [
        | inl m ↦ elim (c.reads i m) [ inl n ↦ inl n | inr n ↦ inr (inl n) ]
        | inr m ↦ inr (inr m)
      ];
      kept = λ i l. z.kept i (elim l [ inl m ↦ inl (c.kept i (inl m)) | inr m ↦ elim m [ inl n ↦ inl (c.kept i (inr n)) | inr n ↦ inr n ] ]);
      calm = λ b. elim b [ inl m ↦ c.calm m | inr m ↦ z.calm m ];
    }

-- a table that is made of an outcome's table
pub solves_made : {A K : Type 0} (s : Scale K) (bad bad' : Type 0) (read : A → Type 0) (sum sum' : (Row A → K) → K) (row row' : Row A → Type 0) (seen : List A)
    (o : Option (List A × Bag A K)) (k : Bag A K → Bag A K) → (bad → bad') → ((B : Bag A K) → Holds s sum row B → (bad → ⊥) → bad' → ⊥)
    → ((B : Bag A K) → Holds s sum row B → Holds s sum' row' (k B))
    → Solves s bad read sum row seen o → Solves s bad' read sum' row' seen (then o (λ d. Some (d.0, k d.1)))
solves_made s bad bad' read sum sum' row row' seen None k b c h z = b z
solves_made s bad bad' read sum sum' row row' seen (Some d) k b c h z = record {
  holds = h d.1 z.holds;
  reads = z.reads;
  kept = z.kept;
  calm = c d.1 z.holds z.calm;
}

pub filled_solves : {A K : Type 0} (s : Scale K) (bad : Type 0) (read : A → Type 0) (sum sum' : (Row A → K) → K) (row row' : Row A → Type 0) (seen : List A)
    (o : Option (Bag A K)) (k : Bag A K → Option (List A × Bag A K)) → (Crowd row → bad) → ((C : Bag A K) → Holds s sum row C → Solves s bad read sum' row' seen (k C))
    → Filled s sum row o → Solves s bad read sum' row' seen (then o k)
filled_solves s bad read sum sum' row row' seen None k b h c = b c
filled_solves s bad read sum sum' row row' seen (Some C) k b h c = h C c

-- what an entry and a table make together
pub record Made {A K : Type 0} (s : Scale K) (u : K) (image : (Row A → K) → K) (row : Row A → Type 0) (B : Bag A K) : Type 0 where
  pub neat : Neat B
  pub sums : (g : Row A → K) → integral s g B ≡ s.product u (image g)
  pub sound : (a : Row A) → In a (rows_in B) → row a
  pub complete : (a : Row A) → row a → In a (rows_in B)

module _ {A : Type 0} {T : Terms A} (x : Exact T) (context : A → List (A × A)) {K : Type 0} {s : Scale K} (f : Fair s)
    (second : Row A → List A → Option (List A × Bag A K)) (together : Row A × K → Bag A K → Bag A K) (first : Row A → Type 0)
    (bad : Row A → Type 0) (read : Row A → A → Type 0) (sum : Row A → (Row A → K) → K) (row : Row A → Row A → Type 0)
    (image : (Row A → K) → Row A → K) (makes : Row A → Row A → Type 0)
    (solves : (a : Row A) → first a → (seen : List A) → Solves s (bad a) (read a) (sum a) (row a) seen (second a seen))
    (made : (e : Row A × K) → first e.0 → Tidy e.0 → (C : Bag A K) → Holds s (sum e.0) (row e.0) C
    → Made s e.1 (λ g. image g e.0) (makes e.0) (together e C)) where
  -- what some row of the table gives
  abbrev SomeRow : Bag A K → (Row A → Type 0) → Type 0
  SomeRow L P = (a : Row A) × In a (rows_in L) × P a

  later : (e : Row A × K) (L : Bag A K) (P : Row A → Type 0) → SomeRow L P → SomeRow (e ∷ L) P
  later e L P h = (h.0, inr h.1, h.2)

  either : (e : Row A × K) (L : Bag A K) (P : Row A → Type 0) → SomeRow (e ∷ L) P → P e.0 ⊎ SomeRow L P
  either e L P h = elim h.1 [ inl i ↦ inl (subst P i h.2) | inr i ↦ inr (h.0, i, h.2) ]

  pub each_solves : (L : Bag A K) → ((a : Row A) → In a (rows_in L) → first a × Tidy a) → (B : Bag A K) (sum₀ : (Row A → K) → K) (row₀ : Row A → Type 0) → Holds s sum₀ row₀ B
      → (seen : List A) → Solves s (SomeRow L bad ⊎ Crowd (λ c. row₀ c ⊎ SomeRow L (λ a. makes a c))) (λ i. SomeRow L (λ a. read a i))
      (λ g. s.sum (sum₀ g) (integral s (image g) L)) (λ c. row₀ c ⊎ SomeRow L (λ a. makes a c)) seen (each_of T s context ◌∷◌ second together L B seen)
  each_solves [] n B sum₀ row₀ h seen = record {
    holds = holds_same sum₀ (λ g. s.sum (sum₀ g) s.zero) row₀ (λ c. row₀ c ⊎ SomeRow [] (λ a. makes a c)) B (λ g. sym (f.sum_zero (sum₀ g)))
        (λ a i. inl i) (λ a i. elim i [ inl j ↦ j | inr j ↦ elim j.1 [ ] ]) h;
    reads = λ i j. inl j;
    kept = λ i j. elim j [ inl l ↦ l | inr l ↦ elim l.1 [ ] ];
    calm = λ z. elim z [ inl l ↦ elim l.1 [ ] | inr l ↦ holds_calm sum₀ row₀ B h (crowd_more _ _ (λ a i. elim i [ inl j ↦ j | inr j ↦ elim j.1 [ ] ]) l) ];
  }
  each_solves (e ∷ L) n B sum₀ row₀ h seen =
      solves_same s (bad e.0 ⊎ Bad) (SomeRow (e ∷ L) bad ⊎ Crowd All) (λ i. read e.0 i ⊎ SomeRow L (λ a. read a i)) (λ i. SomeRow (e ∷ L) (λ a. read a i))
      sum_by_row sum_by_row All All seen seen (each_of T s context ◌∷◌ second together (e ∷ L) B seen)
      (λ z. elim z [ inl l ↦ inl (e.0, inl refl, l) | inr l ↦ elim l [ inl m ↦ inl (later e L bad m) | inr m ↦ inr m ] ])
      (λ z. elim z [ inl l ↦ elim (either e L bad l) [ inl m ↦ inl m | inr m ↦ inr (inl m) ] | inr l ↦ inr (inr l) ])
      (λ i z. elim z [ inl l ↦ inl l | inr l ↦ elim l [ inl m ↦ inr (e.0, inl refl, m) | inr m ↦ inr (later e L (λ a. read a i) m) ] ])
      (λ i z. elim z [ inl l ↦ inl l | inr l ↦ inr (either e L (λ a. read a i) l) ])
      (λ g. refl) (λ a i. i) (λ a i. i)
      (solves_then s (bad e.0) Bad (read e.0) (λ i. SomeRow L (λ a. read a i)) (sum e.0) sum_by_row (row e.0) All seen (second e.0 seen)
      (λ o. then (poured T s (together e o.1) B) (λ C. each_of T s context ◌∷◌ second together L C o.0))
      (λ d k. let m = made e (n e.0 (inl refl)).0 (n e.0 (inl refl)).1 d.1 k in
      filled_solves s Bad (λ i. SomeRow L (λ a. read a i)) (λ g. s.sum (sum₀ g) (integral s g (together e d.1))) sum_by_row
      (λ a. row₀ a ⊎ In a (rows_in (together e d.1))) All d.0 (poured T s (together e d.1) B) (λ C. each_of T s context ◌∷◌ second together L C d.0)
      (λ c. inr (crowd_more _ All (λ a i. elim i [ inl l ↦ inl l | inr l ↦ inr (e.0, inl refl, m.sound a l) ]) c))
      (λ C j. solves_same s (SomeRow L bad ⊎ Crowd (λ c. (row₀ c ⊎ makes e.0 c) ⊎ SomeRow L (λ a. makes a c))) Bad
      (λ i. SomeRow L (λ a. read a i)) (λ i. SomeRow L (λ a. read a i))
      (λ g. s.sum (s.sum (sum₀ g) (s.product e.1 (image g e.0))) (integral s (image g) L)) sum_by_row (λ c. (row₀ c ⊎ makes e.0 c) ⊎ SomeRow L (λ a. makes a c)) All
      d.0 d.0 (each_of T s context ◌∷◌ second together L C d.0)
      (λ z. elim z [ inl l ↦ inl l | inr l ↦ inr (crowd_more _ All on l) ])
      (λ z. elim z [ inl l ↦ inl l | inr l ↦ inr (crowd_more All _ back l) ])
      (λ i l. l) (λ i l. l) (λ g. f.sum_grouping _ _ _) on back
      (each_solves L (λ a i. n a (inr i)) C (λ g. s.sum (sum₀ g) (s.product e.1 (image g e.0))) (λ c. row₀ c ⊎ makes e.0 c)
      (holds_same (λ g. s.sum (sum₀ g) (integral s g (together e d.1))) (λ g. s.sum (sum₀ g) (s.product e.1 (image g e.0)))
      (λ a. row₀ a ⊎ In a (rows_in (together e d.1))) (λ c. row₀ c ⊎ makes e.0 c) C
      (λ g. ap (s.sum (sum₀ g)) (m.sums g))
      (λ a i. elim i [ inl l ↦ inl l | inr l ↦ inr (m.sound a l) ])
      (λ a i. elim i [ inl l ↦ inl l | inr l ↦ inr (m.complete a l) ]) j)
      d.0))
      (poured_holds x f context (together e d.1) sum₀ row₀ B m.neat h))
      (solves e.0 (n e.0 (inl refl)).0 seen))
    where
      All : Row A → Type 0
      All c = row₀ c ⊎ SomeRow (e ∷ L) (λ a. makes a c)

      sum_by_row : (Row A → K) → K
      sum_by_row g = s.sum (sum₀ g) (integral s (image g) (e ∷ L))

      Bad : Type 0
      Bad = SomeRow L bad ⊎ Crowd All

      on : (c : Row A) → (row₀ c ⊎ makes e.0 c) ⊎ SomeRow L (λ a. makes a c) → All c
      on c z = elim z [ inl l ↦ elim l [ inl m ↦ inl m | inr m ↦ inr (e.0, inl refl, m) ] | inr l ↦ inr (later e L (λ a. makes a c) l) ]

      back : (c : Row A) → All c → (row₀ c ⊎ makes e.0 c) ⊎ SomeRow L (λ a. makes a c)
      back c z = elim z [ inl l ↦ inl (inl l) | inr l ↦ elim (either e L (λ a. makes a c) l) [ inl m ↦ inl (inr m) | inr m ↦ inr m ] ]

  -- some row of the first part
  abbrev pub SomeFirst : (Row A → Type 0) → Type 0
  SomeFirst P = (a : Row A) × first a × P a

  -- a first part, and for each of its rows the second
  pub then_each : (bad₁ : Type 0) (read₁ : A → Type 0) (sum₁ : (Row A → K) → K) (seen : List A) (o : Option (List A × Bag A K)) → Solves s bad₁ read₁ sum₁ first seen o
      → Solves s (bad₁ ⊎ (SomeFirst bad ⊎ Crowd (λ c. SomeFirst (λ a. makes a c)))) (λ i. read₁ i ⊎ SomeFirst (λ a. read a i))
      (λ g. sum₁ (image g)) (λ c. SomeFirst (λ a. makes a c)) seen (then o (λ d. each_of T s context ◌∷◌ second together d.1 [] d.0))
  then_each bad₁ read₁ sum₁ seen o h =
      solves_then s bad₁ (SomeFirst bad ⊎ Crowd (λ c. SomeFirst (λ a. makes a c))) read₁ (λ i. SomeFirst (λ a. read a i))
      sum₁ (λ g. sum₁ (image g)) first (λ c. SomeFirst (λ a. makes a c)) seen o (λ d. each_of T s context ◌∷◌ second together d.1 [] d.0)
      (λ d k. solves_same s (SomeRow d.1 bad ⊎ Crowd (λ c. ⊥ ⊎ SomeRow d.1 (λ a. makes a c))) (SomeFirst bad ⊎ Crowd (λ c. SomeFirst (λ a. makes a c)))
      (λ i. SomeRow d.1 (λ a. read a i)) (λ i. SomeFirst (λ a. read a i)) (λ g. s.sum s.zero (integral s (image g) d.1)) (λ g. sum₁ (image g))
      (λ c. ⊥ ⊎ SomeRow d.1 (λ a. makes a c)) (λ c. SomeFirst (λ a. makes a c)) d.0 d.0 (each_of T s context ◌∷◌ second together d.1 [] d.0)
      (λ z. elim z [ inl l ↦ inl (on d.1 k bad l) | inr l ↦ inr (crowd_more _ _ (λ c i. elim i [ inl j ↦ elim j [ ] | inr j ↦ on d.1 k (λ a. makes a c) j ]) l) ])
      (λ z. elim z [ inl l ↦ inl (back d.1 k bad l) | inr l ↦ inr (crowd_more _ _ (λ c i. inr (back d.1 k (λ a. makes a c) i)) l) ])
      (λ i z. elim z [ inl l ↦ inl l | inr l ↦ inr (on d.1 k (λ a. read a i) l) ])
      (λ i z. elim z [ inl l ↦ inl l | inr l ↦ inr (back d.1 k (λ a. read a i) l) ])
      (λ g. zero_sum f _ ∙ k.balanced (image g))
      (λ c i. elim i [ inl j ↦ elim j [ ] | inr j ↦ on d.1 k (λ a. makes a c) j ])
      (λ c i. inr (back d.1 k (λ a. makes a c) i))
      (each_solves d.1 (λ a i. (k.sound a i, k.table.neat a i)) [] (λ g. s.zero) (λ c. ⊥)
      (record { table = table_empty; balanced = λ g. refl; sound = λ a i. i; complete = λ a i. i }) d.0))
      h
    where
      on : (L : Bag A K) → Holds s sum₁ first L → (P : Row A → Type 0) → SomeRow L P → SomeFirst P
      on L k P l = (l.0, k.sound l.0 l.1, l.2)

      back : (L : Bag A K) → Holds s sum₁ first L → (P : Row A → Type 0) → SomeFirst P → SomeRow L P
      back L k P l = (l.0, k.complete l.0 l.1, l.2)

-- two parts one after the other, poured together
module _ {A : Type 0} {T : Terms A} (x : Exact T) (context : A → List (A × A)) {K : Type 0} {s : Scale K} (f : Fair s) where
  pub then_pour : (bad bad' : Type 0) (read read' : A → Type 0) (sum sum' : (Row A → K) → K) (row row' : Row A → Type 0) (seen : List A)
      (o : Option (List A × Bag A K)) (k : List A → Option (List A × Bag A K)) → Solves s bad read sum row seen o → ((now : List A) → Solves s bad' read' sum' row' now (k now))
      → Solves s (bad ⊎ (bad' ⊎ Crowd (λ a. row a ⊎ row' a))) (λ i. read i ⊎ read' i) (λ g. s.sum (sum g) (sum' g)) (λ a. row a ⊎ row' a) seen
      (then o (λ d. then (k d.0) (λ n. then (poured T s n.1 d.1) (λ B. Some (n.0, B)))))
  then_pour bad bad' read read' sum sum' row row' seen o k h i =
      solves_then s bad (bad' ⊎ Crowd (λ a. row a ⊎ row' a)) read read' sum (λ g. s.sum (sum g) (sum' g)) row (λ a. row a ⊎ row' a) seen o
      (λ d. then (k d.0) (λ n. then (poured T s n.1 d.1) (λ B. Some (n.0, B))))
      (λ d w. second d w (k d.0) (i d.0)) h
    where
      second : (d : List A × Bag A K) → Holds s sum row d.1 → (o : Option (List A × Bag A K)) → Solves s bad' read' sum' row' d.0 o
          → Solves s (bad' ⊎ Crowd (λ a. row a ⊎ row' a)) read' (λ g. s.sum (sum g) (sum' g)) (λ a. row a ⊎ row' a) d.0
          (then o (λ n. then (poured T s n.1 d.1) (λ B. Some (n.0, B))))
      second d w None z = inl z
      second d w (Some n) z = last (poured T s n.1 d.1) (poured_holds x f context n.1 sum row d.1 z.holds.table.neat w)
        where
          last : (v : Option (Bag A K)) → Filled s (λ g. s.sum (sum g) (integral s g n.1)) (λ a. row a ⊎ In a (rows_in n.1)) v
              → Solves s (bad' ⊎ Crowd (λ a. row a ⊎ row' a)) read' (λ g. s.sum (sum g) (sum' g)) (λ a. row a ⊎ row' a) d.0 (then v (λ B. Some (n.0, B)))
          last None c = inr (crowd_more _ _ (λ a j. elim j [ inl l ↦ inl l | inr l ↦ inr (z.holds.sound a l) ]) c)
          last (Some B) c =
              let q = holds_same (λ g. s.sum (sum g) (integral s g n.1)) (λ g. s.sum (sum g) (sum' g)) (λ a. row a ⊎ In a (rows_in n.1)) (λ a. row a ⊎ row' a) B
              (λ g. ap (s.sum (sum g)) (z.holds.balanced g))
              (λ a j. elim j [ inl l ↦ inl l | inr l ↦ inr (z.holds.sound a l) ])
              (λ a j. elim j [ inl l ↦ inl l | inr l ↦ inr (z.holds.complete a l) ]) c in
              record {
                holds = q;
                reads = z.reads;
                kept = z.kept;
                calm = λ m. elim m [ inl l ↦ z.calm l | inr l ↦ holds_calm (λ g. s.sum (sum g) (sum' g)) (λ a. row a ⊎ row' a) B q l ];
              }
