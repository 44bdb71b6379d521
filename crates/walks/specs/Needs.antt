-- What a sub-question needs, as a list that can be computed.
use Rattle.std.specs.Prelude.{ℕ, Bool, true, false, cond, ◌&&◌, List, [], ◌∷◌, ◌++◌, Some, None, Option, bit_or}
use Rattle.grammar.specs.Syntax.{Path, link, negated, inverse, star, sequence, alternative, Pattern, empty, line, and, union, opt}
use Rattle.grammar.specs.Bounded.{fixed}
use Rattle.grammar.specs.Masks.{member}
use Rattle.grammar.specs.Judged.{sure_mask}
use Rattle.semantics.specs.Terms.{Terms, gather}
use Rattle.semantics.specs.Rows.{Row, merge, compatible}
use Rattle.semantics.specs.Graphs.{Graph, pair}
use Rattle.semantics.specs.Meaning.{possible}
use Rattle.walks.specs.Plans.{left_first, left_step_first, from_left, fixed_to, allows, Asking, path, part}

module _ {A : Type 0} (T : Terms A) (G : Graph A) where
  abbrev pub iri_at : Option A → List A
  iri_at None = []
  iri_at (Some i) = cond (T.is_iri i) (i ∷ []) []

  -- the terms to which a path leads from what is fixed at its left end, and those from which it leads to what is fixed at its right end
  abbrev pub onward : Path A → Option A → List A
  onward p x = gather (λ a. gather (λ m. cond (allows T x a && pair T G p a m) (m ∷ []) []) G.universe) G.universe

  abbrev pub backward : Path A → Option A → List A
  backward p y = gather (λ b. gather (λ m. cond (allows T y b && pair T G p m b) (m ∷ []) []) G.universe) G.universe

  abbrev pub path_needs : Bool → Bool → Path A → Option A → Option A → List A
  path_needs l r (link u) x y = iri_at x
  path_needs l r (negated us) x y = iri_at x
  path_needs l r (inverse p) x y = path_needs r l p y x
  path_needs l r (alternative p q) x y = path_needs l r p x y ++ path_needs l r q x y
  path_needs l r (sequence p q) x y =
      cond (left_step_first l r p q)
      (path_needs l false p x None ++ gather (λ m. path_needs true r q (Some m) y) (onward p x))
      (path_needs false r q None y ++ gather (λ m. path_needs l true p x (Some m)) (backward q y))
  path_needs l r (star p) x y =
      cond (from_left l p)
      (gather (λ m. path_needs true false p (Some m) None) (onward (star p) x))
      (gather (λ m. path_needs false true p None (Some m)) (backward (star p) y))

  -- the possible solutions that are compatible with what is fixed
  abbrev pub suited : Row A → List (Row A) → List (Row A)
  suited r [] = []
  suited r (a ∷ L) = cond (compatible T r a) (a ∷ suited r L) (suited r L)

  abbrev pub part_needs : ℕ → Pattern A ℕ → Row A → List A
  part_needs m empty r = []
  part_needs m (line e p f) r = path_needs (fixed (member m) e) (fixed (member m) f) p (fixed_to r e) (fixed_to r f)
  part_needs m (and p q) r =
      cond (left_first m p q)
      (part_needs m p r ++ gather (λ a. part_needs (bit_or m (sure_mask p)) q (merge r a)) (suited r (possible T G p)))
      (part_needs m q r ++ gather (λ a. part_needs (bit_or m (sure_mask q)) p (merge r a)) (suited r (possible T G q)))
  part_needs m (union p q) r = part_needs m p r ++ part_needs m q r
  part_needs m (opt p q) r = part_needs m p r ++ gather (λ a. part_needs (sure_mask p) q a) (suited r (possible T G p))

  abbrev pub needs : Asking A → List A
  needs (path l r p x y) = path_needs l r p x y
  needs (part m p r) = part_needs m p r
