-- Verdicts by the node at an index.
use Rattle.std.proofs.Common.{◌≡◌, ℕ, ◌^◌, ◌≤◌, Bool, false, length, Some, None, Option, sym, refl, ap, ◌∙◌, subst, ap₂, arith}
use Rattle.room.specs.Items.{items}
use lib.Bits.{bit_or}
use lib.ListN.{length-map}
use Rattle.grammar.specs.Syntax.{and}
use Rattle.grammar.specs.Bounded.{fixed, Asks}
use Rattle.grammar.specs.Judged.{end_mask, judged}
use Rattle.grammar.specs.Masks.{member}
use Rattle.grammar.specs.Numbered.{numbered, numbered_end}
use Rattle.grammar.specs.Walkable.{walkable}
use Rattle.grammar.proofs.Beginning.{first_side_decides}
use Rattle.grammar.proofs.Numbering.{place_at}
use Rattle.question.specs.declared.question.Question.{Question}
use Rattle.question.specs.declared.node.PathNode.{PathNode}
use Rattle.question.specs.declared.node.End.{End}
use Rattle.question.specs.declared.node.End.TheVariants as end
use Rattle.question.specs.declared.node.PatternNode.{PatternNode}
use Rattle.question.specs.declared.node.PatternNode.TheVariants as pattern
use Rattle.question.specs.Arena.{name_of, path_of, paths_of, pattern_of, patterns_of, end_of}
use Rattle.question.specs.Asking.{asked}
use Rattle.question.specs.Answers.{Told}
use Rattle.question.specs.Behind.{path_from, pattern_from, pattern_names, end_names}
use Rattle.question.specs.Parts.{env_of, end_at, path_is}
use Rattle.question.proofs.Standing.{path_is_lem, path_behind, pattern_is_lem, pattern_behind, no_pattern}
use Rattle.judging.specs.Masked.{asks_at, line_at, Judges}

abbrev pub PathThere : Question → ℕ → PathNode → Type 0
PathThere q i n = Told (λ (x y : PathNode). x ≡ y) (items q.paths) i (Some n)

pub walks_as : (q : Question) (i : ℕ) (n m : PathNode) → PathThere q i n → n ≡ m → (l r : Bool) → walkable (path_of (env_of q).term (paths_of (env_of q).term (items q.paths)) m) l r ≡ walkable (path_is q i) l r
walks_as q i n m t e l r = ap (λ p. walkable p l r) (ap (path_of (env_of q).term (paths_of (env_of q).term (items q.paths))) (sym e) ∙ sym (path_is_lem (env_of q).term q i n t))

pub path_above : (q : Question) (i : ℕ) (n m : PathNode) → PathThere q i n → n ≡ m → path_from m ≤ i
path_above q i n m t e = omega (arith, path_behind q i n t, ap path_from e)

-- ---- patterns

abbrev pub PatternThere : Question → ℕ → PatternNode → Type 0
PatternThere q i n = Told (λ (x y : PatternNode). x ≡ y) (items q.patterns) i (Some n)

pub judges_as : (q : Question) (i : ℕ) (n m : PatternNode) → PatternThere q i n → n ≡ m → (fixed : ℕ) (r : Option ℕ) → Judges (numbered (asked q).names (pattern_of (env_of q) (patterns_of (env_of q) (items q.patterns)) m)) fixed r → Judges (asks_at q i) fixed r
judges_as q i n m t e fixed r h =
    let meant = pattern_of (env_of q) (patterns_of (env_of q) (items q.patterns)) in
    subst (λ p. Judges (numbered (asked q).names p) fixed r) (ap meant (sym e) ∙ sym (pattern_is_lem (env_of q) q i n t)) h

pub nothing_judged : (q : Question) (i fixed : ℕ) → length (items q.patterns) ≤ i → Judges (asks_at q i) fixed (Some 0)
nothing_judged q i fixed le = subst (λ p. Judges (numbered (asked q).names p) fixed (Some 0)) (sym (no_pattern (env_of q) q i le)) (refl, refl)

pub pattern_above : (q : Question) (i : ℕ) (n m : PatternNode) → PatternThere q i n → n ≡ m → pattern_from m ≤ i
pattern_above q i n m t e = omega (arith, pattern_behind q i n t, ap pattern_from e)

-- the variables of a line are there
pub ends_there : (q : Question) (i : ℕ) (n m : PatternNode) → PatternThere q i n → n ≡ m → pattern_names m ≤ length (asked q).names
ends_there q i n m t e = omega (arith, q.patterns_names i, ap pattern_names (t.2.is pattern.Empty ∙ sym t.1 ∙ e), length-map (items q.names) (name_of (items q.text)))

-- where the first side is bounded and the second is not, no other order helps
pub second_fails : (p q : Asks) (m s : ℕ) (r : Option ℕ) → Judges p m (Some s) → judged q (bit_or m s) ≡ false → r ≡ None → Judges (and p q) m r
second_fails p q m s r h f e = subst (Judges (and p q) m) (sym e) (first_side_decides p q m h.0 ∙ ap (λ n. judged q (bit_or m n)) (sym h.1) ∙ f)

-- ---- ends

pub mask_as : (term : ℕ → ℕ) (q : Question) (a : End ℕ) → end_names a ≤ length (asked q).names → end_mask (end_of term (λ v. v) a) ≡ end_mask (numbered_end (asked q).names (end_at q a))
mask_as term q (end.Term t) le = refl
mask_as term q (end.Variable v) le = ap (λ n. 2 ^ n) (sym (place_at (asked q).names v.number q.distinct (omega arith)))

pub fixed_as : (term : ℕ → ℕ) (q : Question) (a : End ℕ) (m : ℕ) → end_names a ≤ length (asked q).names → fixed (member m) (end_of term (λ v. v) a) ≡ fixed (member m) (numbered_end (asked q).names (end_at q a))
fixed_as term q (end.Term t) m le = refl
fixed_as term q (end.Variable v) m le = ap (member m) (sym (place_at (asked q).names v.number q.distinct (omega arith)))

-- a test of an end by number is one by name
abbrev Tests : ℕ → End ℕ → Bool → Type 0
Tests m a b = (term : ℕ → ℕ) → b ≡ fixed (member m) (end_of term (λ v. v) a)

pub line_walks : (q : Question) (a b : End ℕ) (p m : ℕ) (l r : Bool) → end_names a ≤ length (asked q).names → end_names b ≤ length (asked q).names → Tests m a l → Tests m b r → walkable (path_is q p) l r ≡ judged (line_at q a p b) m
line_walks q a b p m l r le lf el er = ap₂ (walkable (path_is q p)) (el (λ i. i) ∙ fixed_as (λ i. i) q a m le) (er (λ i. i) ∙ fixed_as (λ i. i) q b m lf)
