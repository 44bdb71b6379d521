-- Verdicts do not depend on what terms stand for.
use Rattle.std.proofs.Common.{◌≡◌, ℕ, zero, suc, ◌<◌, ◌≤◌, Bool, true, false, ◌&&◌, ◌||◌, eqb, ltb, List, length, get_or, Some, None, Option, sym, refl, ap, ◌∙◌, ap₂, arith, ltb-false, ltb-true}
use lib.Bits.{bit_or, bit_and}
use Rattle.std.proofs.lemmas.List.{get_or_default}
use Rattle.room.specs.Items.{items}
use Rattle.grammar.specs.Judged.{sure_mask, judged}
use Rattle.grammar.specs.Numbered.{numbered}
use Rattle.grammar.specs.Walkable.{walkable}
use Rattle.question.specs.declared.question.Question.{Question}
use Rattle.question.specs.declared.node.PathNode.{PathNode}
use Rattle.question.specs.declared.node.PathNode.TheVariants as path
use Rattle.question.specs.declared.node.PatternNode.{PatternNode}
use Rattle.question.specs.declared.node.PatternNode.TheVariants as pattern
use Rattle.question.specs.Arena.{path_at, paths_of, path_of, patterns_of, pattern_of}
use Rattle.question.specs.Asking.{asked}
use Rattle.question.specs.Behind.{path_from, pattern_from, pattern_names}
use Rattle.question.specs.Parts.{env_of}
use Rattle.question.proofs.Standing.{path_is_lem, path_behind, no_path, pattern_is_lem, pattern_behind, no_pattern}
use Rattle.judging.specs.Masked.{by_number, asks_by, asks_at, Judges}
use Rattle.judging.proofs.Placed.{PathThere, PatternThere, ends_there, mask_as, fixed_as}

-- ---- paths

abbrev SamePath : {S T : Type 0} → (ℕ → S) → (ℕ → T) → Question → ℕ → Type 0
SamePath f g q i = (l r : Bool) → walkable (path_at (paths_of f (items q.paths)) i) l r ≡ walkable (path_at (paths_of g (items q.paths)) i) l r

same_node : {S T : Type 0} (f : ℕ → S) (g : ℕ → T) (q : Question) (i : ℕ) (n : PathNode) → path_from n ≤ i → ((j : ℕ) → j < i → SamePath f g q j) → (l r : Bool) → walkable (path_of f (paths_of f (items q.paths)) n) l r ≡ walkable (path_of g (paths_of g (items q.paths)) n) l r
same_node f g q i (path.Link t) le h l r = refl
same_node f g q i (path.Negated first count) le h l r = refl
same_node f g q i (path.Inverse p) le h l r = h p (omega arith) r l
same_node f g q i (path.Star p) le h l r = ap₂ (λ x y. (l && x) || (r && y)) (h p (omega arith) true false) (h p (omega arith) false true)
same_node f g q i (path.Sequence p s) le h l r =
    ap₂ ◌||◌ (ap₂ ◌&&◌ (h p (omega arith) l false) (h s (omega arith) true r)) (ap₂ ◌&&◌ (h s (omega arith) false r) (h p (omega arith) l true))
same_node f g q i (path.Alternative p s) le h l r = ap₂ ◌&&◌ (h p (omega arith) l r) (h s (omega arith) l r)

path_there : (q : Question) (i : ℕ) → i < length (items q.paths) → PathThere q i (get_or (items q.paths) i (path.Negated 0 0))
path_there q i lt = (get_or (items q.paths) i (path.Negated 0 0), refl, record { within = lt; is = λ d. get_or_default (items q.paths) i d (path.Negated 0 0) lt })

below_path : {S T : Type 0} (f : ℕ → S) (g : ℕ → T) (q : Question) (n i : ℕ) → i < n → SamePath f g q i
below_path f g q zero i lt = absurd (omega arith)
below_path f g q (suc n) i lt = go (ltb i (length (items q.paths))) refl (λ j below. below_path f g q n j (omega arith))
  where
    go : (b : Bool) → ltb i (length (items q.paths)) ≡ b → ((j : ℕ) → j < i → SamePath f g q j) → SamePath f g q i
    go false e h l r =
        let past = ltb-false i (length (items q.paths)) e in
        ap (λ p. walkable p l r) (no_path f q i past) ∙ sym (ap (λ p. walkable p l r) (no_path g q i past))
    go true e h l r =
        let node = get_or (items q.paths) i (path.Negated 0 0) in
        let t = path_there q i (ltb-true i (length (items q.paths)) e) in
        ap (λ p. walkable p l r) (path_is_lem f q i node t) ∙ same_node f g q i node (path_behind q i node t) h l r ∙ sym (ap (λ p. walkable p l r) (path_is_lem g q i node t))

pub same_walk : {S T : Type 0} (f : ℕ → S) (g : ℕ → T) (q : Question) (i : ℕ) → SamePath f g q i
same_walk f g q i = below_path f g q (suc i) i (omega arith)

-- ---- patterns

-- numbers for terms and variables against names and terms that the question has
abbrev SamePattern : List ℕ → Question → ℕ → Type 0
SamePattern numbers q i = ((m : ℕ) → judged (asks_by numbers q i) m ≡ judged (asks_at q i) m) × (sure_mask (asks_by numbers q i) ≡ sure_mask (asks_at q i))

-- what a node's verdict says of numbers and of names
record SameNode (numbers : List ℕ) (q : Question) (n : PatternNode) : Type 0 where
  verdict : (m : ℕ) → judged (pattern_of (by_number numbers q) (patterns_of (by_number numbers q) (items q.patterns)) n) m ≡ judged (numbered (asked q).names (pattern_of (env_of q) (patterns_of (env_of q) (items q.patterns)) n)) m
  mask : sure_mask (pattern_of (by_number numbers q) (patterns_of (by_number numbers q) (items q.patterns)) n) ≡ sure_mask (numbered (asked q).names (pattern_of (env_of q) (patterns_of (env_of q) (items q.patterns)) n))

same_pattern_node : (numbers : List ℕ) (q : Question) (i : ℕ) (n : PatternNode) → pattern_from n ≤ i → pattern_names n ≤ length (asked q).names → ((j : ℕ) → j < i → SamePattern numbers q j) → SameNode numbers q n
same_pattern_node numbers q i pattern.Empty le names h = record { verdict = λ m. refl; mask = refl }
same_pattern_node numbers q i (pattern.Line l) le names h =
    let f = (by_number numbers q).term in
    let a = l.subject in
    let p = l.path in
    let b = l.object in
    record {
      verdict = λ m. ap₂ (walkable ((by_number numbers q).path p)) (fixed_as f q a m (omega arith)) (fixed_as f q b m (omega arith)) ∙ same_walk f (env_of q).term q p _ _;
      mask = ap₂ bit_or (mask_as f q a (omega arith)) (mask_as f q b (omega arith));
    }
same_pattern_node numbers q i (pattern.And p r) le names h =
    let x = h p (omega arith) in
    let y = h r (omega arith) in
    record {
      verdict = λ m. ap₂ ◌||◌ (ap₂ ◌&&◌ (x.0 m) (y.0 (bit_or m (sure_mask (asks_by numbers q p))) ∙ ap (λ s. judged (asks_at q r) (bit_or m s)) x.1))
          (ap₂ ◌&&◌ (y.0 m) (x.0 (bit_or m (sure_mask (asks_by numbers q r))) ∙ ap (λ s. judged (asks_at q p) (bit_or m s)) y.1));
      mask = ap₂ bit_or x.1 y.1;
    }
same_pattern_node numbers q i (pattern.Union p r) le names h =
    let x = h p (omega arith) in
    let y = h r (omega arith) in
    record { verdict = λ m. ap₂ ◌&&◌ (ap₂ ◌&&◌ (x.0 m) (y.0 m)) (ap₂ eqb x.1 y.1); mask = ap₂ bit_and x.1 y.1 }
same_pattern_node numbers q i (pattern.Opt p r) le names h =
    let x = h p (omega arith) in
    let y = h r (omega arith) in
    record { verdict = λ m. ap₂ ◌&&◌ (x.0 m) (y.0 (sure_mask (asks_by numbers q p)) ∙ ap (judged (asks_at q r)) x.1); mask = x.1 }

pattern_there : (q : Question) (i : ℕ) → i < length (items q.patterns) → PatternThere q i (get_or (items q.patterns) i pattern.Empty)
pattern_there q i lt = (get_or (items q.patterns) i pattern.Empty, refl, record { within = lt; is = λ d. get_or_default (items q.patterns) i d pattern.Empty lt })

below_pattern : (numbers : List ℕ) (q : Question) (n i : ℕ) → i < n → SamePattern numbers q i
below_pattern numbers q zero i lt = absurd (omega arith)
below_pattern numbers q (suc n) i lt = go (ltb i (length (items q.patterns))) refl (λ j below. below_pattern numbers q n j (omega arith))
  where
    go : (b : Bool) → ltb i (length (items q.patterns)) ≡ b → ((j : ℕ) → j < i → SamePattern numbers q j) → SamePattern numbers q i
    go false e h =
        let past = ltb-false i (length (items q.patterns)) e in
        let x = no_pattern (by_number numbers q) q i past in
        let y = ap (numbered (asked q).names) (no_pattern (env_of q) q i past) in
        ((λ m. ap (λ p. judged p m) x ∙ sym (ap (λ p. judged p m) y)), ap sure_mask x ∙ sym (ap sure_mask y))
    go true e h =
        let node = get_or (items q.patterns) i pattern.Empty in
        let t = pattern_there q i (ltb-true i (length (items q.patterns)) e) in
        let x = pattern_is_lem (by_number numbers q) q i node t in
        let y = ap (numbered (asked q).names) (pattern_is_lem (env_of q) q i node t) in
        let same = same_pattern_node numbers q i node (pattern_behind q i node t) (ends_there q i node node t refl) h in
        ((λ m. ap (λ p. judged p m) x ∙ same.verdict m ∙ sym (ap (λ p. judged p m) y)), ap sure_mask x ∙ same.mask ∙ sym (ap sure_mask y))

-- a verdict on names is one on numbers
pub judges_numbers : (numbers : List ℕ) (q : Question) (i m : ℕ) (r : Option ℕ) → Judges (asks_at q i) m r → Judges (asks_by numbers q i) m r
judges_numbers numbers q i m None h = (below_pattern numbers q (suc i) i (omega arith)).0 m ∙ h
judges_numbers numbers q i m (Some s) h =
    let same = below_pattern numbers q (suc i) i (omega arith) in
    (same.0 m ∙ h.0, h.1 ∙ sym same.1)
