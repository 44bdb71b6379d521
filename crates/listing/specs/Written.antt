-- Text that is written into a buffer.
use Rattle.std.specs.Prelude.{◌≡◌, ℕ, ◌+◌, ◌-◌, ◌^◌, ◌<◌, ◌≤◌, min, List, [], ◌∷◌, ◌++◌, length, take, drop, Ok, Err, Result}
use Rattle.listing.specs.declared.refusal.TooShort.{TooShort}

-- The whole text stands at the front, with what was there behind it. Or the buffer is shorter than the text, and is as it was.
abbrev pub Writes : List ℕ → List ℕ → Result ℕ TooShort → List ℕ → Type 0
Writes text before (Ok n) after = (n ≡ length text) × (n ≤ length before) × (after ≡ text ++ drop n before)
Writes text before (Err e) after = (length before < length text) × (after ≡ before)

-- ---- piece by piece

-- bytes at a place, with what was there around them
abbrev pub laid : List ℕ → ℕ → List ℕ → List ℕ
laid bytes at buffer = take at buffer ++ (bytes ++ drop (at + length bytes) buffer)

-- Bytes were to be written at a place, and the place behind them is told, or the largest number where that is larger. They were written if they fit.
pub record Puts (bytes : List ℕ) (at : ℕ) (before : List ℕ) (behind : ℕ) (after : List ℕ) : Type 0 where
  pub place : behind ≡ min (at + length bytes) (2 ^ 64 - 1)
  pub wrote : at + length bytes ≤ length before → length before < 2 ^ 64 → after ≡ laid bytes at before

-- a part that others follow
abbrev pub tabbed : List ℕ → List ℕ
tabbed x = x ++ 9 ∷ []
