-- What a run of the machine says of the words that it passed: they begin a question, and the word that stops it goes on with none.
use Rattle.std.proofs.Common.{◌≡◌, ℕ, zero, suc, Bool, true, false, cond, List, [], ◌∷◌, ◌++◌, length, sym, refl, ap, ◌∙◌, subst, append_assoc, append-nil, add_comm, arith, lit<, length-append}
use Rattle.tokens.specs.declared.token.Token.{Token}
use Rattle.tokens.specs.Words.{Word, sort, same}
use Rattle.grammar.specs.Grammar.{is_question, Tree, spell}
use Rattle.grammar.specs.Machine.{Symbol, the, a, Config, at, move, run, Reaches}
use Rattle.grammar.specs.Reading.{Begins}
use Rattle.grammar.proofs.Moves.{run_add, run_fixed, move_stop, reach_then, reach_take, reach_stay}
use Rattle.grammar.proofs.Stacks.{Trees, spell_all, some_trees, Passed, passed}
use Rattle.grammar.proofs.Spelled.{reads}

abbrev left : Config → List Word
left (at σ v) = v

-- what is passed before the same words is the same
before : (v u z : List Word) → v ++ z ≡ u ++ z → v ≡ u
before [] [] z e = refl
before [] (y ∷ u) z e = absurd (omega (arith, simp length-append at (ap length e)))
before (x ∷ v) [] z e = absurd (omega (arith, simp length-append at (ap length e)))
before (x ∷ v) (y ∷ u) z e =
    let r = before v u z (cc) in
    let same : x ≡ y = cc in
    (λ i. same i ∷ r i)

-- any trees for what is still to come complete the words passed to a question
completed : (v : List Word) {z : List Word} {τ : List Symbol} → Reaches (a is_question ∷ []) (v ++ z) τ z → (ts : Trees τ) → (t : Tree is_question) × (v ++ spell_all τ ts [] ≡ spell t [])
completed v {z} {τ} r ts =
    let p = subst (Passed (a is_question ∷ []) (v ++ z)) r.does (passed r.moves (a is_question ∷ []) (v ++ z)) in
    let us = p.2 ts in
    (us.0.0, ap (λ l. l ++ spell_all τ ts []) (before v p.0 z p.1) ∙ us.1 [])

-- the words passed begin a question, whatever is still to come
pub viable_prefix : (v : List Word) {z : List Word} {τ : List Symbol} → Reaches (a is_question ∷ []) (v ++ z) τ z → Begins v
viable_prefix v {z} {τ} r = let c = completed v r (some_trees τ) in (c.0, spell_all τ (some_trees τ) [], c.1)

-- and they are all of one if nothing is
pub whole_prefix : (v : List Word) {z : List Word} → Reaches (a is_question ∷ []) (v ++ z) [] z → (t : Tree is_question) × (v ≡ spell t [])
whole_prefix v r = let c = completed v r tt in (c.0, sym (append-nil v) ∙ c.1)

-- they begin one with a word of the sort that is to come too
pub going_prefix : (v : List Word) {z : List Word} {x : Word} {t : Token} {τ : List Symbol} → Reaches (a is_question ∷ []) (v ++ x ∷ z) (the t ∷ τ) (x ∷ z) → same t (sort x) ≡ true → Begins (v ++ x ∷ [])
going_prefix v {z} {x} {t} {τ} r h =
    let s = reach_then r (reach_take t x h reach_stay) in
    viable_prefix (v ++ x ∷ []) (subst (λ l. Reaches (a is_question ∷ []) l τ z) (sym (append_assoc v (x ∷ []) z)) s)

-- ---- a word that stops the machine

-- no run adds words
never_more : (n : ℕ) (σ ρ : List Symbol) (x : Word) (z : List Word) → run n (at σ z) ≡ at ρ (x ∷ z) → ⊥
never_more n σ ρ x z e =
    let p = subst (Passed σ z) e (passed n σ z) in
    omega (arith, simp length-append at (ap length p.1))

-- a run up to a word depends on no word after it
agrees : (n : ℕ) (σ ρ : List Symbol) (v : List Word) (x : Word) (z w : List Word) → run n (at σ (v ++ x ∷ z)) ≡ at ρ (x ∷ z) → run n (at σ (v ++ x ∷ w)) ≡ at ρ (x ∷ w)
unfolding run move
agrees zero σ ρ [] x z w e = let s : σ ≡ ρ = cc in ap (λ r. at r (x ∷ w)) s
agrees zero σ ρ (y ∷ v) x z w e = absurd (omega (arith, simp length-append at (ap (λ c. length (left c)) e)))
agrees (suc n) [] ρ v x z w e = agrees n [] ρ v x z w e
agrees (suc n) (the t ∷ σ) ρ [] x z w e = go (same t (sort x)) (agrees n (the t ∷ σ) ρ [] x z w) e
  where
    go : (b : Bool) → (run n (at (the t ∷ σ) (x ∷ z)) ≡ at ρ (x ∷ z) → run n (at (the t ∷ σ) (x ∷ w)) ≡ at ρ (x ∷ w)) → run n (cond b (at σ z) (at (the t ∷ σ) (x ∷ z))) ≡ at ρ (x ∷ z) → run n (cond b (at σ w) (at (the t ∷ σ) (x ∷ w))) ≡ at ρ (x ∷ w)
    go true f e = absurd (never_more n σ ρ x z e)
    go false f e = f e
agrees (suc n) (the t ∷ σ) ρ (y ∷ v) x z w e = go (same t (sort y)) (agrees n σ ρ v x z w) (agrees n (the t ∷ σ) ρ (y ∷ v) x z w) e
  where
    go : (b : Bool) → (run n (at σ (v ++ x ∷ z)) ≡ at ρ (x ∷ z) → run n (at σ (v ++ x ∷ w)) ≡ at ρ (x ∷ w)) → (run n (at (the t ∷ σ) (y ∷ v ++ x ∷ z)) ≡ at ρ (x ∷ z) → run n (at (the t ∷ σ) (y ∷ v ++ x ∷ w)) ≡ at ρ (x ∷ w)) → run n (cond b (at σ (v ++ x ∷ z)) (at (the t ∷ σ) (y ∷ v ++ x ∷ z))) ≡ at ρ (x ∷ z) → run n (cond b (at σ (v ++ x ∷ w)) (at (the t ∷ σ) (y ∷ v ++ x ∷ w))) ≡ at ρ (x ∷ w)
    go true f g e = f e
    go false f g e = g e
agrees (suc n) (a k ∷ σ) ρ [] x z w e = agrees n _ ρ [] x z w e
agrees (suc n) (a k ∷ σ) ρ (y ∷ v) x z w e = agrees n _ ρ (y ∷ v) x z w e

-- a run ends in one place at most
one_end : {σ τ ρ : List Symbol} {v w z : List Word} → Reaches σ v τ w → Reaches σ v ρ z → move (at τ w) ≡ at τ w → move (at ρ z) ≡ at ρ z → at τ w ≡ at ρ z
one_end {σ} {τ} {ρ} {v} {w} {z} r s e f =
    sym (run_add r.moves s.moves (at σ v) ∙ ap (run s.moves) r.does ∙ run_fixed s.moves (at τ w) e)
    ∙ ap (λ n. run n (at σ v)) (add_comm r.moves s.moves)
    ∙ run_add s.moves r.moves (at σ v) ∙ ap (run r.moves) s.does ∙ run_fixed r.moves (at ρ z) f

pub dead_prefix : (v : List Word) {z : List Word} {x : Word} {t : Token} {τ : List Symbol} → Reaches (a is_question ∷ []) (v ++ x ∷ z) (the t ∷ τ) (x ∷ z) → same t (sort x) ≡ false → Begins (v ++ x ∷ []) → ⊥
unfolding move
dead_prefix v {z} {x} {t} {τ} r h b =
    let w = b.1 in
    let text : v ++ x ∷ w ≡ spell b.0 [] = sym (append_assoc v (x ∷ []) w) ∙ b.2 in
    let stuck : Reaches (a is_question ∷ []) (v ++ x ∷ w) (the t ∷ τ) (x ∷ w) = record { moves = r.moves; does = agrees r.moves (a is_question ∷ []) (the t ∷ τ) v x z w r.does } in
    let done = subst (λ l. Reaches (a is_question ∷ []) l [] []) (sym text) (reads b.0 [] [] (lit< tt)) in
    let same : at (the t ∷ τ) (x ∷ w) ≡ at [] [] = one_end stuck done (move_stop t τ x w h) refl in
    let no : ◌≡◌ {A = ℕ} 0 1 = cc in
    omega arith
