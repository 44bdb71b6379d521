-- Two Webs as one: the second is looked in exactly where the first says absent.
use Rattle.web.specs.Meaning.{Looked, found, absent, broken, Mark, Told}
use Rattle.web.specs.declared.pair.PairCause.{PairCause}
use Rattle.web.specs.declared.pair.PairCause.TheVariants.{First, Second}

abbrev pub as_second : {A B : Type 0} → Looked B → Looked (PairCause A B)
as_second (found ts) = found ts
as_second absent = absent
as_second (broken c) = broken (Second c)

abbrev pub both : {A B : Type 0} → Looked A → Looked B → Looked (PairCause A B)
both (found ts) l = found ts
both absent l = as_second l
both (broken c) l = broken (First c)

-- a cause of the pair is told as the Web tells it that it comes from
abbrev pub either_mark : {A B : Type 0} → (A → Mark) → (B → Mark) → PairCause A B → Mark
either_mark f g (First a) = f a
either_mark f g (Second b) = g b

-- what a pair tells, by what its two Webs tell
abbrev pub or_told : Told → Told → Told
or_told (found ts) t = found ts
or_told absent t = t
or_told (broken m) t = broken m
