-- Whether a line is bounded depends only on its path and on which of its ends are fixed.
use Rattle.std.specs.Prelude.{◌≡◌, ℕ, Bool, true, false, ◌&&◌, ◌||◌}
use Rattle.terms.specs.Terms.{Term}
use Rattle.grammar.specs.Syntax.{Path, link, negated, inverse, star, sequence, alternative, End}
use Rattle.grammar.specs.Bounded.{Vars, fixed, BoundedLine}

-- by whether the left end is fixed, and whether the right one is
abbrev pub walkable : {T : Type 0} → Path T → Bool → Bool → Bool
walkable (link u) l r = l
walkable (negated us) l r = l
walkable (inverse p) l r = walkable p r l
walkable (sequence p q) l r = (walkable p l false && walkable q true r) || (walkable q false r && walkable p l true)
walkable (alternative p q) l r = walkable p l r && walkable q l r
walkable (star p) l r = (l && walkable p true false) || (r && walkable p false true)

abbrev pub EndsDecide : Type 0
EndsDecide = (p : Path Term) (X : Vars) (a b : End Term ℕ) → (BoundedLine p X a b → walkable p (fixed X a) (fixed X b) ≡ true) × (walkable p (fixed X a) (fixed X b) ≡ true → BoundedLine p X a b)

-- Where the first part can be walked from the left end, the second part decides. So one try settles whether a walk begins on the left.
abbrev pub FirstPartDecides : Type 0
FirstPartDecides = (p q : Path Term) (l r : Bool) → walkable p l false ≡ true → walkable (sequence p q) l r ≡ walkable q true r
