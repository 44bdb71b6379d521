-- Each possible solution is a solution of the question that keeps all left solutions.
use Rattle.std.proofs.Common.{◌≡◌, ℕ, Bool, true, false, cond, not, ◌&&◌, eqb, [], ◌∷◌, ◌++◌, sym, refl, ap, ◌∙◌, subst, ap₂, inl, inr}
use Rattle.std.proofs.lemmas.Bool.{and_parts, and_from}
use Rattle.weights.specs.Scales.{Scale, Fair}
use Rattle.weights.proofs.Fairness.{lawful_codes_are_fair}
use Rattle.grammar.specs.Syntax.{Pattern, empty, line, and, union, opt}
use Rattle.semantics.specs.Terms.{Terms, In, any}
use Rattle.semantics.specs.Rows.{Row, merge, compatible, same_row}
use Rattle.semantics.specs.Bags.{Bag, only, weight, pairs, join}
use Rattle.semantics.specs.Graphs.{Graph, pair, weigh}
use Rattle.semantics.specs.Meaning.{end_row, stand, merges, meaning, possible}
use Rattle.semantics.proofs.Lists.{clash, any_in, any_from, in_either, in_gather}
use Rattle.semantics.proofs.Totals.{some, one_some, product_some, total_some}
use Rattle.semantics.proofs.Paths.{weigh_some}
use Rattle.semantics.proofs.Possible.{in_one, rows_of, rows_possible}
use Rattle.semantics.proofs.Proved.{solutions_are_possible}
use Rattle.semantics.proofs.Bytes.{eqb_told}
use Rattle.semantics.proofs.Codings.{weight_coded}
use Rattle.walks.specs.Kept.{kept, PossibleIsKept}

possible_kept : {A : Type 0} (T : Terms A) (G : Graph A) (p : Pattern A ℕ) → possible T G (kept p) ≡ possible T G p
possible_kept T G empty = refl
possible_kept T G (line e p f) = refl
possible_kept T G (and p q) = ap₂ (merges T) (possible_kept T G p) (possible_kept T G q)
possible_kept T G (union p q) = ap₂ ◌++◌ (possible_kept T G p) (possible_kept T G q)
possible_kept T G (opt p q) = ap₂ ◌++◌ (ap₂ (merges T) (possible_kept T G p) (possible_kept T G q)) (possible_kept T G p)

module _ {A : Type 0} (T : Terms A) (G : Graph A) {K : Type 0} {s : Scale K} (f : Fair s) where
  -- no entry of the bag is zero
  abbrev Some : Bag A K → Type 0
  Some L = (e : Row A × K) → In e L → some f e.1 ≡ true

  some_pairs : (a : Row A) (u : K) (M : Bag A K) → some f u ≡ true → Some M → Some (pairs T s a u M)
  some_pairs a u [] h n e i = elim i [ ]
  some_pairs a u (d ∷ M) h n e i = pick (compatible T a d.0) i (λ j. some_pairs a u M h (λ c k. n c (inr k)) e j)
    where
      pick : (t : Bool) → In e (cond t ((merge a d.0, s.product u d.1) ∷ pairs T s a u M) (pairs T s a u M)) → (In e (pairs T s a u M) → some f e.1 ≡ true)
          → some f e.1 ≡ true
      pick true (inl j) g = ap (λ z. some f z.1) j ∙ product_some f u d.1 ∙ and_from _ _ h (n d (inl refl))
      pick true (inr j) g = g j
      pick false j g = g j

  some_join : (L M : Bag A K) → Some L → Some M → Some (join T s L M)
  some_join [] M h n e i = elim i [ ]
  some_join (d ∷ L) M h n e i = elim (in_either e (pairs T s d.0 d.1 M) (join T s L M) i) [
    | inl j ↦ some_pairs d.0 d.1 M (h d (inl refl)) n e j
    | inr j ↦ some_join L M (λ c k. h c (inr k)) n e j
  ]

  some_kept : (p : Pattern A ℕ) → Some (meaning T G s (kept p))
  some_kept empty e (inl j) = ap (λ z. some f z.1) j ∙ one_some f
  some_kept empty e (inr j) = elim j [ ]
  some_kept (line c p d) e i =
      let a = in_gather _ G.universe e i in
      let b = in_gather _ G.universe e a.2 in
      let j = in_one (stand T c d a.0 b.0 && pair T G p a.0 b.0) (merge (end_row c a.0) (end_row d b.0), weigh T G s p a.0 b.0) e b.2 in
      ap (λ z. some f z.1) j.1 ∙ weigh_some T G f p a.0 b.0 ∙ (and_parts (stand T c d a.0 b.0) (pair T G p a.0 b.0) j.0).1
  some_kept (and p q) e i = some_join (meaning T G s (kept p)) (meaning T G s (kept q)) (some_kept p) (some_kept q) e i
  some_kept (union p q) e i = elim (in_either e (meaning T G s (kept p)) (meaning T G s (kept q)) i) [ inl j ↦ some_kept p e j | inr j ↦ some_kept q e j ]
  some_kept (opt p q) e i = elim (in_either e (join T s (meaning T G s (kept p)) (meaning T G s (kept q))) (meaning T G s (kept p)) i) [
    | inl j ↦ some_join (meaning T G s (kept p)) (meaning T G s (kept q)) (some_kept p) (some_kept q) e j
    | inr j ↦ some_kept p e j
  ]

  entry : (L : Bag A K) (a : Row A) → In a (rows_of T s L) → (e : Row A × K) × In e L × (a ≡ e.0)
  entry [] a i = elim i [ ]
  entry (e ∷ L) a (inl j) = (e, inl refl, j)
  entry (e ∷ L) a (inr j) = let r = entry L a j in (r.0, inr r.1, r.2)

  only_same : (b : Bool) (u : K) → b ≡ true → some f u ≡ true → some f (only s b u) ≡ true
  only_same b u e h = ap (λ t. some f (only s t u)) e ∙ h

  pub kept_some : (p : Pattern A ℕ) (m : Row A) → any (same_row T m) (possible T G p) ≡ true → some f (weight T s m (meaning T G s (kept p))) ≡ true
  kept_some p m h =
      let a = any_in (same_row T m) (possible T G p) h in
      let bag = meaning T G s (kept p) in
      let e = entry bag a.0 (subst (λ L. In a.0 L) (sym (rows_possible T G s (kept p) ∙ possible_kept T G p)) a.1) in
      total_some f (λ d. only s (same_row T m d.0) d.1) bag
      ∙ any_from (λ d. some f (only s (same_row T m d.0) d.1)) bag e.0 e.1
      (only_same (same_row T m e.0.0) e.0.1 (ap (same_row T m) (sym e.2) ∙ a.2) (some_kept p e.0 e.1))

pub possible_is_kept : {A : Type 0} → PossibleIsKept A
possible_is_kept T x G k l p m = (
  λ h z. clash (kept_some T G (lawful_codes_are_fair k l) p m h) (ap (λ n. not (eqb n k.zero)) (weight_coded T G k l (kept p) m ∙ z) ∙ ap not (eqb_told k.zero)),
  λ n. ap (any (same_row T m)) (sym (possible_kept T G p)) ∙ solutions_are_possible T x G k l (kept p) m n,
)
