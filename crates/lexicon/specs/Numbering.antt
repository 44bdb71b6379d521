-- Terms by number: from 1, in the order in which they entered. Equal terms have equal numbers.
use Rattle.std.specs.Prelude.{◌≡◌, ℕ, zero, suc, ◌+◌, ◌<◌, Bool, true, false, cond, ◌&&◌, List, [], ◌∷◌, ◌++◌, length, Some, None, Option, ◌==◌, nat_le}
use Rattle.terms.specs.Terms.{Term}
use Rattle.terms.specs.declared.kind.Kind.{Kind}
use Rattle.terms.specs.declared.kind.Kind.TheVariants.{Iri, Literal}
use Rattle.tokens.specs.Lexed.{same_bytes}

abbrev pub term : Kind → List ℕ → Term
term k x = record { kind = k; bytes = x }

abbrev pub same_kind : Kind → Kind → Bool
same_kind Iri Iri = true
same_kind Iri Literal = false
same_kind Literal Iri = false
same_kind Literal Literal = true

abbrev pub same_term : Term → Term → Bool
same_term a b = same_kind a.kind b.kind && same_bytes a.bytes b.bytes

abbrev pub one_on : ℕ → ℕ
one_on zero = zero
one_on (suc n) = suc (suc n)

-- the number of a term, or 0 if it is not there
unfoldable pub number_of : List Term → Term → ℕ
number_of [] t = 0
number_of (x ∷ xs) t = cond (same_term x t) 1 (one_on (number_of xs t))

-- a number as it is told: 0 is the number of no term
abbrev pub told_number : ℕ → Option ℕ
told_number zero = None
told_number (suc n) = Some (suc n)

-- the term with a number
abbrev pub term_at : List Term → ℕ → Option Term
term_at [] n = None
term_at (x ∷ xs) zero = None
term_at (x ∷ xs) (suc zero) = Some x
term_at (x ∷ xs) (suc (suc n)) = term_at xs (suc n)

-- whether what is found is the term
abbrev pub is_term : Option Term → Term → Bool
is_term None t = false
is_term (Some x) t = same_term x t

-- ---- entering

-- a term that is not there goes behind the others
unfoldable pub enter : List Term → Term → List Term
enter ts t = cond (number_of ts t == 0) (ts ++ t ∷ []) ts

-- terms enter one after the other
abbrev pub enter_all : List Term → List Term → List Term
enter_all ts [] = ts
enter_all ts (x ∷ xs) = enter_all (enter ts x) xs

abbrev pub bytes_of : List Term → ℕ
bytes_of [] = 0
bytes_of (t ∷ ts) = length t.bytes + bytes_of ts

-- the limits: 1,024 terms with 32,768 bytes of text, marks not counted
unfoldable pub within : List Term → Bool
within ts = nat_le (length ts) 1024 && nat_le (bytes_of ts) 32768

-- what a term that is to enter is answered, and what is there then: where a limit would be passed, it does not enter
abbrev pub admitted : List Term → Term → Option ℕ
admitted ts t = cond (within (enter ts t)) (Some (number_of (enter ts t) t)) None

abbrev pub admit : List Term → Term → List Term
admit ts t = cond (within (enter ts t)) (enter ts t) ts

-- ---- laws

abbrev pub NumberTellsItsTerm : Type 0
NumberTellsItsTerm = (ts : List Term) (t : Term) → 0 < number_of ts t → term_at ts (number_of ts t) ≡ Some t

abbrev pub TermHasANumber : Type 0
TermHasANumber = (ts : List Term) (n : ℕ) (t : Term) → term_at ts n ≡ Some t → 0 < number_of ts t

abbrev pub NumbersTellTermsApart : Type 0
NumbersTellTermsApart = (ts : List Term) (t u : Term) → 0 < number_of ts t → number_of ts t ≡ number_of ts u → t ≡ u

abbrev pub NumbersStay : Type 0
NumbersStay = (ts xs : List Term) (t : Term) → 0 < number_of ts t → number_of (enter_all ts xs) t ≡ number_of ts t

abbrev pub EnteredHasANumber : Type 0
EnteredHasANumber = (ts : List Term) (t : Term) → 0 < number_of (enter ts t) t

abbrev pub EnteringTwiceIsOnce : Type 0
EnteringTwiceIsOnce = (ts : List Term) (t : Term) → enter (enter ts t) t ≡ enter ts t

-- of what entered, no term has two numbers
abbrev pub EachTermOnce : Type 0
EachTermOnce = (xs : List Term) (n : ℕ) (t : Term) → term_at (enter_all [] xs) n ≡ Some t → number_of (enter_all [] xs) t ≡ n

-- ---- what a call tells

abbrev pub tell : {X Y : Type 0} → (X → Y) → Option X → Option Y
tell f None = None
tell f (Some x) = Some (f x)
