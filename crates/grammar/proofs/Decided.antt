-- Every text asks a question or has a first fault: the machine is run on its words, and then the limits are looked at.
use Rattle.std.proofs.Common.{◌≡◌, ℕ, zero, ◌≤◌, Bool, true, false, cond, ltb, leb, ◌⊎◌, List, [], ◌∷◌, ◌++◌, length, Some, None, Option, sym, refl, ap, ◌∙◌, subst, subst₂, inl, inr, append_assoc, append-nil, arith}
use borrow.Author.Tests.{clash}
use Rattle.std.proofs.str.Laws.{order}
use Rattle.tokens.specs.Words.{Word, iri, literal, name, open_brace, close_brace, open_paren, close_paren, dot, bar, slash, caret, star, bang, optional, union, wrong, end, sort, same}
use Rattle.tokens.specs.Lexed.{Spot, tokens}
use Rattle.grammar.specs.declared.refusal.Reason.{Reason}
use Rattle.grammar.specs.declared.refusal.Reason.TheVariants.{NoQuestion, TooDeep, TooManyVariables, TooLong}
use Rattle.grammar.specs.declared.refusal.Refusal.{Refusal}
use Rattle.grammar.specs.declared.refusal.Refusal.TheVariants.{TextTooLong, TooManyNodes, At}
use Rattle.grammar.specs.Syntax.{nodes}
use Rattle.grammar.specs.Grammar.{is_question, Tree, spell, means}
use Rattle.grammar.specs.Limits.{Seen, nothing, known, after, gather, at_most, limit, Clear}
use Rattle.grammar.specs.Machine.{Symbol, a, Reaches}
use Rattle.grammar.specs.Reading.{Asked, words, Lawful, Question, Begins, Refuses, Refused, EveryText}
use Rattle.grammar.proofs.Moves.{reach_stay, reach_then, reach_take}
use Rattle.grammar.proofs.Prefixes.{viable_prefix, whole_prefix, dead_prefix}
use Rattle.grammar.proofs.Settled.{Settled, settles}
use Rattle.grammar.proofs.Endings.{ended, ended_all, cut_ended, question_ended}
use Rattle.grammar.proofs.Verdicts.{begins_front, begins_through}

-- ---- the grammar

-- words of a question
abbrev Whole : List Word → Type 0
Whole ws = (t : Tree is_question) × (ws ≡ spell t [])

-- words that go on as no question does
abbrev Broken : List Word → Type 0
Broken ws = (v : List Word) × (x : Word) × (z : List Word) × (ws ≡ v ++ x ∷ z) × Begins v × (Begins (v ++ x ∷ []) → ⊥)

abbrev Run : List Word → List Symbol → List Word → Type 0
Run ws τ z = Reaches (a is_question ∷ []) ws τ z

-- nothing is to come: nothing is left
all_read : (v u : List Word) → ended (v ++ u) ≡ true → Run (v ++ u) [] u → Whole (v ++ u)
all_read v u h r =
    let q = whole_prefix v r in
    let none = ended_all v u (ap ended q.1 ∙ question_ended q.0) h in
    (q.0, ap (λ l. v ++ l) none ∙ append-nil v ∙ q.1)

-- nothing is left: nothing is to come
all_passed : (v : List Word) (τ : List Symbol) → ended (v ++ []) ≡ true → Run (v ++ []) τ [] → Whole (v ++ [])
all_passed v τ h r =
    let b = viable_prefix v r in
    let none = ended_all v b.1 (ap ended (sym (append-nil v)) ∙ h) (ap ended b.2 ∙ question_ended b.0) in
    (b.0, ap (λ l. v ++ l) (sym none) ∙ b.2)

judged : (u v : List Word) (σ : List Symbol) → ended (v ++ u) ≡ true → Run (v ++ u) σ u → Whole (v ++ u) ⊎ Broken (v ++ u)
judged [] v σ h r = inl (all_passed v σ h r)
judged (x ∷ z) v σ h r = go (settles σ (x ∷ z)) (judged z (v ++ x ∷ []))
  where
    Judged : List Word → Type 0
    Judged ws = Whole ws ⊎ Broken ws

    go : Settled σ (x ∷ z) → ((τ : List Symbol) → ended (v ++ x ∷ [] ++ z) ≡ true → Run (v ++ x ∷ [] ++ z) τ z → Judged (v ++ x ∷ [] ++ z)) → Judged (v ++ x ∷ z)
    go (inr s) f = inl (all_read v (x ∷ z) h (reach_then r s))
    go (inl s) f = test (same s.0 (sort x)) refl
      where
        test : (b : Bool) → same s.0 (sort x) ≡ b → Judged (v ++ x ∷ z)
        test false e = inr (v, x, z, refl, viable_prefix v r, dead_prefix v (reach_then r s.2) e)
        test true e =
            let join = append_assoc v (x ∷ []) z in
            subst Judged join (f s.1 (ap ended join ∙ h) (subst (λ l. Run l s.1 z) (sym join) (reach_then r (reach_then s.2 (reach_take s.0 x e reach_stay)))))

-- ---- the limits

abbrev Over : Seen → List Word → Type 0
Over s ws = (v : List Word) × (x : Word) × (z : List Word) × (r : Reason) × (ws ≡ v ++ x ∷ z) × Clear s v × (limit (gather s v) x ≡ Some r)

measured : (s : Seen) (v : List Word) → Clear s v ⊎ Over s v
measured s [] = inl tt
measured s (x ∷ v) = go (limit s x) refl (measured (after s x) v)
  where
    go : (o : Option Reason) → limit s x ≡ o → Clear (after s x) v ⊎ Over (after s x) v → Clear s (x ∷ v) ⊎ Over s (x ∷ v)
    go (Some r) e m = inr ([], x, v, r, refl, tt, e)
    go None e (inl c) = inl (e, c)
    go None e (inr o) = inr (x ∷ o.0, o.1, o.2, o.3, ap (λ l. x ∷ l) o.4, (e, o.5), o.6)

-- no limit is a matter of the grammar
abbrev grammatical : Option Reason → Bool
grammatical None = false
grammatical (Some NoQuestion) = true
grammatical (Some TooDeep) = false
grammatical (Some TooManyVariables) = false
grammatical (Some TooLong) = false

either : (b : Bool) (o p : Option Reason) → grammatical o ≡ false → grammatical p ≡ false → grammatical (cond b o p) ≡ false
either true o p h g = h
either false o p h g = g

limit_apart : (s : Seen) (x : Word) → grammatical (limit s x) ≡ false
limit_apart s (iri x) = either (leb (length x) 128) _ _ refl refl
limit_apart s (literal x) = either (leb (length x) 128) _ _ refl refl
limit_apart s (name x) = either (known x s.names) None _ refl (either (ltb (length s.names) 8) (at_most 16 (length x)) (Some TooManyVariables) (either (leb (length x) 16) _ _ refl refl) refl)
limit_apart s open_brace = either (ltb s.depth 16) _ _ refl refl
limit_apart s close_brace = refl
limit_apart s open_paren = either (ltb s.depth 16) _ _ refl refl
limit_apart s close_paren = refl
limit_apart s dot = refl
limit_apart s bar = refl
limit_apart s slash = refl
limit_apart s caret = refl
limit_apart s star = refl
limit_apart s bang = refl
limit_apart s optional = refl
limit_apart s union = refl
limit_apart s wrong = refl
limit_apart s end = refl

refuses : (r : Reason) (v : List Word) (x : Word) → Begins (v ++ x ∷ []) → limit (gather nothing v) x ≡ Some r → Refuses r v x
refuses NoQuestion v x b e = absurd (clash (sym (limit_apart (gather nothing v) x) ∙ ap grammatical e))
refuses TooDeep v x b e = (b, e)
refuses TooManyVariables v x b e = (b, e)
refuses TooLong v x b e = (b, e)

-- ---- the text

-- a split of words is a split of spots
abbrev Split : List Spot → List Word → Word → Type 0
Split ts v x = (b : List Spot) × (s : Spot) × (u : List Spot) × (ts ≡ b ++ s ∷ u) × (words b ≡ v) × (s.word ≡ x)

later : (s : Spot) (ts : List Spot) (y : Word) (v : List Word) (x : Word) → s.word ≡ y → Split ts v x → Split (s ∷ ts) (y ∷ v) x
later s ts y v x e (b, o, u, p, q, r) = (s ∷ b, o, u, ap (λ l. s ∷ l) p, (λ i. e i ∷ q i), r)

spots : (ts : List Spot) (v : List Word) (x : Word) (z : List Word) → words ts ≡ v ++ x ∷ z → Split ts v x
spots [] [] x z e = let n : ◌≡◌ {A = ℕ} 0 1 = cc in absurd (omega arith)
spots [] (y ∷ v) x z e = let n : ◌≡◌ {A = ℕ} 0 1 = cc in absurd (omega arith)
spots (s ∷ ts) [] x z e = ([], s, ts, refl, refl, cc)
spots (s ∷ ts) (y ∷ v) x z e = later s ts y v x (cc) (spots ts v x z (cc))

abbrev Verdict : List ℕ → Type 0
Verdict text = ((q : Asked) × Question text q) ⊎ ((r : Refusal) × Refused text r)

module _ (text : List ℕ) (short : length text ≤ 2048) where
  faulty : (v : List Word) (x : Word) (z : List Word) (r : Reason) → words (tokens text) ≡ v ++ x ∷ z → Begins v → Clear nothing v → Refuses r v x → (r : Refusal) × Refused text r
  faulty v x z r e b c w =
      let s = spots (tokens text) v x z e in (
        At (record { reason = r; at = s.1.at }),
        (
          short,
          record {
            before = s.0;
            here = s.1;
            behind = s.2;
            split = s.3;
            place = refl;
            begins = subst Begins (sym s.4) b;
            clear = subst (Clear nothing) (sym s.4) c;
            refuses = subst₂ (Refuses r) (sym s.4) (sym s.5) w;
          },
        ),
      )

  -- a word over a limit, among the first that begin a question
  over : (v z : List Word) → words (tokens text) ≡ v ++ z → Begins v → Over nothing v → (r : Refusal) × Refused text r
  over v z e b (p, x, u, r, is, c, l) =
      let goes = subst Begins is b in
      faulty p x (u ++ z) r (e ∙ ap (λ k. k ++ z) is ∙ append_assoc p (x ∷ u) z) (begins_front p (x ∷ u) goes) c (refuses r p x (begins_through p x u goes) l)

  sized : (t : Tree is_question) → Lawful text t → Verdict text
  sized t l =
      elim (order 64 (nodes (means t))) [
        | inl h ↦ inr (TooManyNodes, (t, l, h))
        | inr h ↦
            (let seen = gather nothing (words (tokens text)) in
            let q : Asked = record { pattern = means t; names = seen.names; terms = seen.terms } in
            inl (q, record { tree = t; lawful = l; small = h; pattern = refl; names = refl; terms = refl }))
      ]

  whole_text : Whole (words (tokens text)) → Verdict text
  whole_text w =
      elim (measured nothing (words (tokens text))) [
        | inl c ↦ sized w.0 (record { short = short; derives = w.1; clear = c })
        | inr o ↦ inr (over (words (tokens text)) [] (sym (append-nil _)) (w.0, [], append-nil _ ∙ w.1) o)
      ]

  broken_text : Broken (words (tokens text)) → (r : Refusal) × Refused text r
  broken_text (v, x, z, e, b, n) =
      elim (measured nothing v) [
        | inl c ↦ faulty v x z NoQuestion e b c n
        | inr o ↦ over v (x ∷ z) e b o
      ]

  short_text : Verdict text
  short_text =
      elim (judged (words (tokens text)) [] (a is_question ∷ []) (cut_ended 0 zero text) reach_stay) [
        | inl w ↦ whole_text w
        | inr b ↦ inr (broken_text b)
      ]

pub every_text : EveryText
every_text text =
    elim (order 2048 (length text)) [
      | inl h ↦ inr (TextTooLong, h)
      | inr h ↦ short_text text h
    ]
