-- What parts an input into a question and pages: the first line of exactly `==`.
use Rattle.std.specs.Prelude.{◌≡◌, ℕ, ◌+◌, ◌<◌, ◌≤◌, ◌⊎◌, List, [], ◌++◌, length, take, codes}

-- a line begins after these bytes: they are none, or they end with LF
abbrev pub BeginsLine : List ℕ → Type 0
BeginsLine before = (before ≡ []) ⊎ ((bytes : List ℕ) × (before ≡ bytes ++ codes "\n"))

-- these bytes are a line `==`, which LF ends, and then pages; or `==` alone
abbrev pub Opens : List ℕ → List ℕ → Type 0
Opens rest pages = (rest ≡ codes "==\n" ++ pages) ⊎ ((rest ≡ codes "==") × (pages ≡ []))

-- the input is these bytes, then a line of exactly `==`, and then these pages
pub record Line (input before pages : List ℕ) : Type 0 where
  pub begins : BeginsLine before
  pub rest : List ℕ
  pub split : input ≡ before ++ rest
  pub opens : Opens rest pages

-- The question is what stands before the first such line. Without one it is all of the input, and there are no pages.
abbrev pub Parted : List ℕ → List ℕ → List ℕ → Type 0
Parted input question pages =
    (Line input question pages × ((before after : List ℕ) → Line input before after → length question ≤ length before))
    ⊎ ((question ≡ input) × (pages ≡ []) × ((before after : List ℕ) → Line input before after → ⊥))

-- ---- laws

-- an input is parted in one way at most
abbrev pub OneParting : Type 0
OneParting =
    (input question pages q p : List ℕ) → Parted input question pages → Parted input q p → (question ≡ q) × (pages ≡ p)

-- Whether a question keeps to a limit, and which bytes it then has, the front of the input settles: as many bytes as the limit, and `==` with its LF.
abbrev pub FrontSettles : Type 0
FrontSettles =
    (limit : ℕ) (input question pages q p : List ℕ) → Parted input question pages → Parted (take (limit + 3) input) q p
    → (question ≡ q) ⊎ ((limit < length question) × (limit < length q))

-- And so it does of the pages, where the question keeps to its limit: as many bytes more as the pages may have, and one.
abbrev pub FrontSettlesPages : Type 0
FrontSettlesPages =
    (limit most : ℕ) (input question pages p : List ℕ) → length question ≤ limit → Parted input question pages
    → Parted (take (limit + most + 4) input) question p → (pages ≡ p) ⊎ ((most < length pages) × (most < length p))
