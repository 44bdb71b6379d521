-- The machine's moves, one after another, and how sorts of words are told apart.
use Rattle.std.proofs.Common.{◌≡◌, ℕ, zero, suc, ◌+◌, true, false, cond, eqb, List, [], ◌∷◌, ◌++◌, sym, refl, ap, ◌∙◌, suc-add, zero-add, eq-eqb, ne_eqb, eqb-true}
use Rattle.tokens.specs.declared.token.Token.{Token}
use Rattle.tokens.specs.declared.token.Token.TheVariants.{Iri, Literal, Variable, OpenBrace, CloseBrace, OpenParen, CloseParen, Dot, Bar, Slash, Caret, Star, Bang, Optional, Union, Wrong, End}
use Rattle.tokens.specs.Words.{Word, iri, literal, name, open_brace, close_brace, open_paren, close_paren, dot, bar, slash, caret, star, bang, optional, union, wrong, end, sort, content, saying, code, same}
use Rattle.grammar.specs.Grammar.{Kind}
use Rattle.grammar.specs.Machine.{Symbol, the, a, parts, Config, at, lead, move, run, Reaches}

-- ---- sorts

-- the sort of a number
abbrev pub coded : ℕ → Token
coded n =
    cond (eqb n 0) Iri (cond (eqb n 1) Literal (cond (eqb n 2) Variable (cond (eqb n 3) OpenBrace (cond (eqb n 4) CloseBrace (cond (eqb n 5) OpenParen
    (cond (eqb n 6) CloseParen (cond (eqb n 7) Dot (cond (eqb n 8) Bar (cond (eqb n 9) Slash (cond (eqb n 10) Caret (cond (eqb n 11) Star
    (cond (eqb n 12) Bang (cond (eqb n 13) Optional (cond (eqb n 14) Union (cond (eqb n 15) Wrong End)))))))))))))))

pub coded_code : (t : Token) → coded (code t) ≡ t
coded_code Iri = refl
coded_code Literal = refl
coded_code Variable = refl
coded_code OpenBrace = refl
coded_code CloseBrace = refl
coded_code OpenParen = refl
coded_code CloseParen = refl
coded_code Dot = refl
coded_code Bar = refl
coded_code Slash = refl
coded_code Caret = refl
coded_code Star = refl
coded_code Bang = refl
coded_code Optional = refl
coded_code Union = refl
coded_code Wrong = refl
coded_code End = refl

pub code_is : (s t : Token) → code s ≡ code t → s ≡ t
code_is s t e = sym (coded_code s) ∙ ap coded e ∙ coded_code t

pub same_is : (s t : Token) → same s t ≡ true → s ≡ t
same_is s t e = code_is s t (eqb-true (code s) (code t) e)

pub same_refl : (t : Token) → same t t ≡ true
same_refl t = eq-eqb (code t) (code t) refl

pub differ : (s t : Token) → (s ≡ t → ⊥) → same s t ≡ false
differ s t n = ne_eqb (code s) (code t) (λ e. n (code_is s t e))

pub says_is : (x : Word) → saying (sort x) (content x) ≡ x
says_is (iri x) = refl
says_is (literal x) = refl
says_is (name x) = refl
says_is open_brace = refl
says_is close_brace = refl
says_is open_paren = refl
says_is close_paren = refl
says_is dot = refl
says_is bar = refl
says_is slash = refl
says_is caret = refl
says_is star = refl
says_is bang = refl
says_is optional = refl
says_is union = refl
says_is wrong = refl
says_is end = refl

-- ---- moves

pub run_add : (m n : ℕ) (c : Config) → run (m + n) c ≡ run n (run m c)
unfolding run
run_add zero n c = ap (λ k. run k c) (zero-add n)
run_add (suc m) n c = ap (λ k. run k c) (suc-add m n) ∙ run_add m n (move c)

pub move_open : (k : Kind) (σ : List Symbol) (v : List Word) → move (at (a k ∷ σ) v) ≡ at (parts k (lead v) ++ σ) v
unfolding move
move_open k σ [] = refl
move_open k σ (x ∷ v) = refl

pub move_take : (t : Token) (σ : List Symbol) (x : Word) (v : List Word) → same t (sort x) ≡ true → move (at (the t ∷ σ) (x ∷ v)) ≡ at σ v
unfolding move
move_take t σ x v h = ap (λ b. cond b (at σ v) (at (the t ∷ σ) (x ∷ v))) h

pub move_stop : (t : Token) (σ : List Symbol) (x : Word) (v : List Word) → same t (sort x) ≡ false → move (at (the t ∷ σ) (x ∷ v)) ≡ at (the t ∷ σ) (x ∷ v)
unfolding move
move_stop t σ x v h = ap (λ b. cond b (at σ v) (at (the t ∷ σ) (x ∷ v))) h

-- what does not move stays
pub run_fixed : (n : ℕ) (c : Config) → move c ≡ c → run n c ≡ c
unfolding run
run_fixed zero c e = refl
run_fixed (suc n) c e = ap (run n) e ∙ run_fixed n c e

pub reach_stay : {σ : List Symbol} {v : List Word} → Reaches σ v σ v
unfolding run
reach_stay = record { moves = 0; does = refl }

pub reach_then : {σ τ ρ : List Symbol} {v w z : List Word} → Reaches σ v τ w → Reaches τ w ρ z → Reaches σ v ρ z
reach_then r s = record { moves = r.moves + s.moves; does = run_add r.moves s.moves _ ∙ ap (run s.moves) r.does ∙ s.does }

-- one move and then others
pub reach_move : {σ τ ρ : List Symbol} {v w z : List Word} → move (at σ v) ≡ at τ w → Reaches τ w ρ z → Reaches σ v ρ z
unfolding run
reach_move e r = record { moves = suc r.moves; does = ap (run r.moves) e ∙ r.does }

pub reach_open : {σ τ : List Symbol} {v w : List Word} (k : Kind) (ps : List Symbol) → parts k (lead v) ≡ ps → Reaches (ps ++ σ) v τ w → Reaches (a k ∷ σ) v τ w
reach_open {σ} {τ} {v} k ps e r = reach_move (move_open k σ v ∙ ap (λ p. at (p ++ σ) v) e) r

pub reach_take : {σ τ : List Symbol} {v w : List Word} (t : Token) (x : Word) → same t (sort x) ≡ true → Reaches σ v τ w → Reaches (the t ∷ σ) (x ∷ v) τ w
reach_take {σ} {τ} {v} t x h r = reach_move (move_take t σ x v h) r
