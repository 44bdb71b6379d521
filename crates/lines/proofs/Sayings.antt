-- What a line says, by its opening and its statement.
use Rattle.std.proofs.Common.{◌≡◌, ℕ, ◌≤◌, cond, List, [], ◌∷◌, length, get_or, Some, None, codes, Option, sym, refl, ap, ◌∙◌, subst, ap₂, arith, ne_eqb}
use Rattle.terms.specs.declared.kind.Kind.TheVariants.{Iri}
use Rattle.web.specs.Meaning.{Triple}
use Rattle.lines.specs.Readings.{nothing, opens, states, unreadable, says, opening, statement, or_opens, or_states, and_then, behind, ended, marked}
use Rattle.lines.proofs.Fronted.{then_none}

pub says_nil : says [] ≡ nothing
unfolding says
says_nil = refl

pub says_cons : (b : ℕ) (bs : List ℕ) → says (b ∷ bs) ≡ or_opens (opening (b ∷ bs)) (or_states (statement (b ∷ bs)))
unfolding says
says_cons b bs = refl

pub says_opening : (l a : List ℕ) → opening l ≡ Some a → says l ≡ opens a
says_opening [] a e = let z : ◌≡◌ {A = ℕ} 0 1 = cc in absurd (omega arith)
says_opening (b ∷ bs) a e = says_cons b bs ∙ ap (λ o. or_opens o (or_states (statement (b ∷ bs)))) e

pub says_statement : (l : List ℕ) (t : Triple) → opening l ≡ None → statement l ≡ Some t → says l ≡ states t
says_statement [] t e f = let z : ◌≡◌ {A = ℕ} 0 1 = cc in absurd (omega arith)
says_statement (b ∷ bs) t e f = says_cons b bs ∙ ap₂ (λ o s. or_opens o (or_states s)) e f

pub says_bad : (l : List ℕ) → 1 ≤ length l → opening l ≡ None → statement l ≡ None → says l ≡ unreadable
says_bad [] h e f = absurd (omega arith)
says_bad (b ∷ bs) h e f = says_cons b bs ∙ ap₂ (λ o s. or_opens o (or_states s)) e f

-- an opening begins with @, a statement with <
pub at_states_nothing : (l : List ℕ) → get_or l 0 0 ≡ 64 → statement l ≡ None
at_states_nothing [] e = refl
at_states_nothing (b ∷ bs) e = subst (λ d. statement (d ∷ bs) ≡ None) (sym e) refl

pub opens_at : (l : List ℕ) → (get_or l 0 0 ≡ 64 → ⊥) → opening l ≡ None
opens_at [] e = refl
opens_at (b ∷ bs) e = then_none (λ r. and_then (marked Iri r) (λ c. and_then (ended c.rest) (λ d. Some c.bytes))) (ap (λ t. cond t (behind (codes "page ") bs) None) (ne_eqb b 64 e))

-- a line that states a triple is read as that statement
pub states_by : (l : List ℕ) (t : Triple) → says l ≡ states t → statement l ≡ Some t
states_by [] t e = let z = says_nil in let y : ◌≡◌ {A = ℕ} 0 1 = cc in absurd (omega arith)
states_by (b ∷ bs) t e = go (opening (b ∷ bs)) (statement (b ∷ bs)) (sym (says_cons b bs) ∙ e)
  where
    go : (o : Option (List ℕ)) (s : Option Triple) → or_opens o (or_states s) ≡ states t → s ≡ Some t
    go None None e = let y : ◌≡◌ {A = ℕ} 0 1 = cc in absurd (omega arith)
    go None (Some x) e = cc
    go (Some a) s e = let y : ◌≡◌ {A = ℕ} 0 1 = cc in absurd (omega arith)
