-- Terms under other names, as a session has numbers for them: a map from terms to terms that keeps apart what is valid, and paths, questions, rows and
-- bags translated by it.
use Rattle.std.specs.Prelude.{◌≡◌, ℕ, Bool, true, ◌↔◌, List, [], ◌∷◌, Some, None, Option}
use Rattle.weights.specs.Kinds.{Kind}
use Rattle.weights.specs.Scales.{codes}
use Rattle.grammar.specs.Syntax.{Path, link, negated, inverse, star, sequence, alternative, End, constant, variable, Pattern, empty, line, and, union, opt}
use Rattle.grammar.specs.Judged.{judged}
use Rattle.semantics.specs.Terms.{Terms, Exact, In}
use Rattle.semantics.specs.Rows.{Row}
use Rattle.semantics.specs.Bags.{Bag}
use Rattle.semantics.specs.Graphs.{Graph, Closed}
use Rattle.semantics.specs.Meaning.{meaning, possible}
use Rattle.semantics.specs.Webs.{terms_in}
use Rattle.walks.specs.Crowds.{TooMany}
use Rattle.walks.specs.Needs.{needs}
use Rattle.walks.specs.Promises.{whole}

abbrev pub each : {A B : Type 0} → (A → B) → List A → List B
each f [] = []
each f (x ∷ xs) = f x ∷ each f xs

module _ {A B : Type 0} (f : A → B) where
  abbrev pub slot_by : Option A → Option B
  slot_by None = None
  slot_by (Some a) = Some (f a)

  abbrev pub row_by : Row A → Row B
  row_by r = each slot_by r

  abbrev pub path_by : Path A → Path B
  path_by (link u) = link (f u)
  path_by (negated us) = negated (each f us)
  path_by (inverse p) = inverse (path_by p)
  path_by (star p) = star (path_by p)
  path_by (sequence p q) = sequence (path_by p) (path_by q)
  path_by (alternative p q) = alternative (path_by p) (path_by q)

  abbrev pub end_by : {V : Type 0} → End A V → End B V
  end_by (constant t) = constant (f t)
  end_by (variable v) = variable v

  abbrev pub pattern_by : {V : Type 0} → Pattern A V → Pattern B V
  pattern_by empty = empty
  pattern_by (line a p b) = line (end_by a) (path_by p) (end_by b)
  pattern_by (and p q) = and (pattern_by p) (pattern_by q)
  pattern_by (union p q) = union (pattern_by p) (pattern_by q)
  pattern_by (opt p q) = opt (pattern_by p) (pattern_by q)

  abbrev pub bag_by : {K : Type 0} → Bag A K → Bag B K
  bag_by L = each (λ e. (row_by e.0, e.1)) L

-- Valid terms are kept apart, the graph has only valid terms, and the contexts are those of the graph, translated.
pub record Faithful {A B : Type 0} (T : Terms A) (S : Terms B) (valid : A → Bool) (f : A → B) (G : Graph A) (context : B → List (B × B)) : Type 0 where
  pub apart : (a b : A) → valid a ≡ true → valid b ≡ true → S.same (f a) (f b) ≡ T.same a b
  pub iris : (a : A) → valid a ≡ true → S.is_iri (f a) ≡ T.is_iri a
  pub terms : (a : A) → In a G.universe → valid a ≡ true
  pub predicates : (a : A) (t : A × A) → In t (G.context a) → valid t.0 ≡ true
  pub objects : (a : A) (t : A × A) → In t (G.context a) → valid t.1 ≡ true
  pub contexts : (a : A) → valid a ≡ true → context (f a) ≡ each (λ t. (f t.0, f t.1)) (G.context a)

-- the graph of the translated terms
abbrev pub graph_by : {A B : Type 0} → (A → B) → Graph A → (B → List (B × B)) → Graph B
graph_by f G context = record { context = context; universe = each f G.universe }

-- A translated question has its verdict, its rows and weights, its possible rows and its needs, translated.
pub record Translates {A B : Type 0} (T : Terms A) (S : Terms B) (f : A → B) (G : Graph A) (H : Graph B) (p : Pattern A ℕ) : Type 0 where
  pub verdict : (m : ℕ) → judged (pattern_by f p) m ≡ judged p m
  pub bags : (k : Kind) → meaning S H (codes k) (pattern_by f p) ≡ bag_by f (meaning T G (codes k) p)
  pub rows : possible S H (pattern_by f p) ≡ each (row_by f) (possible T G p)
  pub needs : needs S H (whole (pattern_by f p)) ≡ each f (needs T G (whole p))

abbrev pub NamesAreFree : Type 0 → Type 0 → Type 0
NamesAreFree A B =
    (T : Terms A) → Exact T → (S : Terms B) (valid : A → Bool) (f : A → B) (G : Graph A) (context : B → List (B × B)) → Faithful T S valid f G context
    → (p : Pattern A ℕ) → ((t : A) → In t (terms_in p) → valid t ≡ true) → Translates T S f G (graph_by f G context) p

-- Where names lead back to their terms, a translated question has too many possible solutions exactly where the question has.
abbrev pub CrowdsAreTranslated : Type 0 → Type 0 → Type 0
CrowdsAreTranslated A B =
    (T : Terms A) → Exact T → (S : Terms B) → Exact S → (valid : A → Bool) (f : A → B) (back : B → A) → ((a : A) → valid a ≡ true → back (f a) ≡ a)
    → (G : Graph A) (context : B → List (B × B)) → Faithful T S valid f G context → Closed T G → Closed S (graph_by f G context)
    → (p : Pattern A ℕ) → ((t : A) → In t (terms_in p) → valid t ≡ true)
    → TooMany T G (whole p) ↔ TooMany S (graph_by f G context) (whole (pattern_by f p))
