-- Which questions can be walked completely. Variables are numbers, and a set of them is a test.
use Rattle.std.specs.Prelude.{◌≡◌, ℕ, zero, suc, Bool, true, false, ◌&&◌, ◌||◌, ◌⊎◌, ◌==◌}
use Rattle.terms.specs.Terms.{Term}
use Rattle.grammar.specs.Syntax.{Path, link, negated, inverse, star, sequence, alternative, End, constant, variable, Pattern, empty, line, and, union, opt}

abbrev pub Vars : Type 0
Vars = ℕ → Bool

abbrev pub none : Vars
none v = false

abbrev pub both : Vars → Vars → Vars
both X Y v = X v || Y v

abbrev pub common : Vars → Vars → Vars
common X Y v = X v && Y v

abbrev pub just : ℕ → Vars
just w v = v == w

-- ---- sure variables: those that every solution gives a term

abbrev pub of_end : {T : Type 0} → End T ℕ → Vars
of_end (constant t) = none
of_end (variable w) = just w

abbrev pub sure_line : {T : Type 0} → End T ℕ → End T ℕ → Vars
sure_line a b = both (of_end a) (of_end b)

abbrev pub sure : {T : Type 0} → Pattern T ℕ → Vars
sure empty = none
sure (line a p b) = sure_line a b
sure (and p q) = both (sure p) (sure q)
sure (union p q) = common (sure p) (sure q)
sure (opt p q) = sure p

-- ---- bounded by a set of fixed variables

-- the term at this end is known
abbrev pub fixed : {T : Type 0} → Vars → End T ℕ → Bool
fixed X (constant t) = true
fixed X (variable v) = X v

-- A new variable is 0, and every other one makes room for it.
abbrev pub raised : {T : Type 0} → End T ℕ → End T ℕ
raised (constant t) = constant t
raised (variable v) = variable (suc v)

abbrev pub raised_vars : Vars → Vars
raised_vars X zero = false
raised_vars X (suc v) = X v

-- a line with this path between two ends
abbrev pub BoundedLine : {T : Type 0} → Path T → Vars → End T ℕ → End T ℕ → Type 0
BoundedLine (link u) X a b = fixed X a ≡ true
BoundedLine (negated us) X a b = fixed X a ≡ true
BoundedLine (inverse p) X a b = BoundedLine p X b a
BoundedLine (sequence p q) X a b =
    (BoundedLine p (raised_vars X) (raised a) (variable 0) × BoundedLine q (both (raised_vars X) (sure_line (raised a) (variable 0))) (variable 0) (raised b))
    ⊎ (BoundedLine q (raised_vars X) (variable 0) (raised b) × BoundedLine p (both (raised_vars X) (sure_line (variable 0) (raised b))) (raised a) (variable 0))
BoundedLine (alternative p q) X a b = BoundedLine p X a b × BoundedLine q X a b
BoundedLine (star p) X a b =
    ((fixed X a ≡ true) × BoundedLine p (just 0) (variable 0) (variable 1)) ⊎ ((fixed X b ≡ true) × BoundedLine p (just 1) (variable 0) (variable 1))

abbrev pub Bounded : {T : Type 0} → Pattern T ℕ → Vars → Type 0
Bounded empty X = Unit {0}
Bounded (line a p b) X = BoundedLine p X a b
Bounded (and p q) X = (Bounded p X × Bounded q (both X (sure p))) ⊎ (Bounded q X × Bounded p (both X (sure q)))
Bounded (union p q) X = Bounded p X × Bounded q X × ((v : ℕ) → sure p v ≡ sure q v)
Bounded (opt p q) X = Bounded p X × Bounded q (sure p)

-- ---- laws

abbrev pub Asks : Type 0
Asks = Pattern Term ℕ

abbrev pub Within : Vars → Vars → Type 0
Within X Y = (v : ℕ) → X v ≡ true → Y v ≡ true

-- what is fixed besides does no harm
abbrev pub BoundedByMore : Type 0
BoundedByMore = (p : Asks) (X Y : Vars) → Within X Y → Bounded p X → Bounded p Y

-- the sides of an AND or a UNION are exchanged, anywhere and repeatedly
pub data Exchanged : Asks → Asks → Type 0 where
  and_sides : (p q : Asks) → Exchanged (and p q) (and q p)
  union_sides : (p q : Asks) → Exchanged (union p q) (union q p)
  in_and : {p q r s : Asks} → Exchanged p r → Exchanged q s → Exchanged (and p q) (and r s)
  in_union : {p q r s : Asks} → Exchanged p r → Exchanged q s → Exchanged (union p q) (union r s)
  in_opt : {p q r s : Asks} → Exchanged p r → Exchanged q s → Exchanged (opt p q) (opt r s)
  as_it_was : (p : Asks) → Exchanged p p
  again : {p q r : Asks} → Exchanged p q → Exchanged q r → Exchanged p r

-- that changes neither the sure variables nor the verdict
abbrev pub ExchangeKeepsBounds : Type 0
ExchangeKeepsBounds = (p q : Asks) → Exchanged p q → ((v : ℕ) → sure p v ≡ sure q v) × ((X : Vars) → Bounded p X → Bounded q X)

-- Regrouping can change it: here the third line gives what the first needs, the first what the second needs, and in one grouping the second must do
-- with what the third gives.
abbrev pub hop : Term → ℕ → ℕ → Asks
hop u v w = line (variable v) (link u) (variable w)

abbrev pub chained : Term → Asks
chained u = and (and (hop u 0 1) (hop u 1 2)) (line (constant u) (link u) (variable 0))

abbrev pub regrouped : Term → Asks
regrouped u = and (hop u 0 1) (and (hop u 1 2) (line (constant u) (link u) (variable 0)))

abbrev pub RegroupingCanUnbind : Type 0
RegroupingCanUnbind = (u : Term) → Bounded (chained u) none × (Bounded (regrouped u) none → ⊥)
