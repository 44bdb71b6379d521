-- Judging by masks: the sure variables of a pattern as one number, and its verdict by the mask of those that are fixed.
use Rattle.std.specs.Prelude.{◌≡◌, ℕ, ◌^◌, Bool, true, ◌&&◌, ◌||◌, ◌==◌, bit_and, bit_or}
use Rattle.grammar.specs.Syntax.{End, constant, variable, Pattern, empty, line, and, union, opt}
use Rattle.grammar.specs.Bounded.{sure, fixed, Bounded, Asks}
use Rattle.grammar.specs.Masks.{member}
use Rattle.grammar.specs.Walkable.{walkable}

abbrev pub end_mask : {T : Type 0} → End T ℕ → ℕ
end_mask (constant t) = 0
end_mask (variable v) = 2 ^ v

abbrev pub sure_mask : {T : Type 0} → Pattern T ℕ → ℕ
sure_mask empty = 0
sure_mask (line a p b) = bit_or (end_mask a) (end_mask b)
sure_mask (and p q) = bit_or (sure_mask p) (sure_mask q)
sure_mask (union p q) = bit_and (sure_mask p) (sure_mask q)
sure_mask (opt p q) = sure_mask p

abbrev pub judged : {T : Type 0} → Pattern T ℕ → ℕ → Bool
judged empty m = true
judged (line a p b) m = walkable p (fixed (member m) a) (fixed (member m) b)
judged (and p q) m = (judged p m && judged q (bit_or m (sure_mask p))) || (judged q m && judged p (bit_or m (sure_mask q)))
judged (union p q) m = judged p m && judged q m && sure_mask p == sure_mask q
judged (opt p q) m = judged p m && judged q (sure_mask p)

-- the mask has exactly the sure variables, and the verdict is the definition's
abbrev pub MaskIsSure : Type 0
MaskIsSure = (p : Asks) (v : ℕ) → member (sure_mask p) v ≡ sure p v

abbrev pub JudgingDecides : Type 0
JudgingDecides = (p : Asks) (m : ℕ) → (judged p m ≡ true → Bounded p (member m)) × (Bounded p (member m) → judged p m ≡ true)

-- where the first side of an AND is bounded, the second decides
abbrev pub FirstSideDecides : Type 0
FirstSideDecides = (p q : Asks) (m : ℕ) → judged p m ≡ true → judged (and p q) m ≡ judged q (bit_or m (sure_mask p))
