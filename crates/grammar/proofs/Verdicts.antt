-- A text has one verdict at most.
use Rattle.std.proofs.Common.{◌≡◌, ℕ, ◌⊎◌, List, [], ◌∷◌, ◌++◌, Some, None, Option, sym, refl, ap, ◌∙◌, subst, subst₂, inl, inr, append_assoc, append-nil, arith}
use Rattle.tokens.specs.Words.{Word}
use Rattle.tokens.specs.Lexed.{Spot, tokens}
use Rattle.grammar.specs.declared.refusal.Reason.{Reason}
use Rattle.grammar.specs.declared.refusal.Reason.TheVariants.{NoQuestion, TooDeep, TooManyVariables, TooLong}
use Rattle.grammar.specs.declared.refusal.Fault.{Fault}
use Rattle.grammar.specs.declared.refusal.Refusal.TheVariants.{TextTooLong, TooManyNodes, At}
use Rattle.grammar.specs.Syntax.{nodes}
use Rattle.grammar.specs.Grammar.{is_question, Tree, means}
use Rattle.grammar.specs.Limits.{Seen, nothing, after, gather, limit, Clear}
use Rattle.grammar.specs.Reading.{words, Lawful, Begins, Refuses, Faulty, OneQuestion, OneRefusal, NotBoth}
use Rattle.grammar.proofs.Unique.{one_tree}

-- ---- words

pub words_split : (b : List Spot) (s : Spot) (u : List Spot) → words (b ++ s ∷ u) ≡ words b ++ s.word ∷ words u
words_split [] s u = refl
words_split (x ∷ b) s u = ap (λ l. x.word ∷ l) (words_split b s u)

pub clear_at : (s : Seen) (v : List Word) (x : Word) (z : List Word) → Clear s (v ++ x ∷ z) → limit (gather s v) x ≡ None
clear_at s [] x z c = c.0
clear_at s (y ∷ v) x z c = clear_at (after s y) v x z c.1

pub begins_front : (v u : List Word) → Begins (v ++ u) → Begins v
begins_front v u b = (b.0, u ++ b.1, sym (append_assoc v u b.1) ∙ b.2)

pub begins_through : (v : List Word) (x : Word) (z : List Word) → Begins (v ++ x ∷ z) → Begins (v ++ x ∷ [])
begins_through v x z b = begins_front (v ++ x ∷ []) z (subst Begins (sym (append_assoc v (x ∷ []) z)) b)

-- ---- refusals of a word

none_some : {r : Reason} (o : Option Reason) → o ≡ None → o ≡ Some r → ⊥
none_some o p q = let z : ◌≡◌ {A = ℕ} 0 1 = cc in omega arith

-- no question goes on so, or one does and a limit is passed
why : (r : Reason) (v : List Word) (x : Word) → Refuses r v x → ((r ≡ NoQuestion) × (Begins (v ++ x ∷ []) → ⊥)) ⊎ (Begins (v ++ x ∷ []) × (limit (gather nothing v) x ≡ Some r))
why NoQuestion v x p = inl (refl, p)
why TooDeep v x p = inr p
why TooManyVariables v x p = inr p
why TooLong v x p = inr p

-- a word among words that begin a question, none over a limit, is not refused
not_refused : (r : Reason) (v : List Word) (x : Word) (z : List Word) → Begins (v ++ x ∷ z) → Clear nothing (v ++ x ∷ z) → Refuses r v x → ⊥
not_refused r v x z b c p =
    elim (why r v x p) [
      | inl q ↦ q.1 (begins_through v x z b)
      | inr q ↦ none_some _ (clear_at nothing v x z c) q.1
    ]

one_reason : (r s : Reason) (v : List Word) (x : Word) → Refuses r v x → Refuses s v x → r ≡ s
one_reason r s v x p q =
    elim (why r v x p) [
      | inl e ↦ elim (why s v x q) [ inl f ↦ e.0 ∙ sym f.0 | inr f ↦ absurd (e.1 f.0) ]
      | inr e ↦ elim (why s v x q) [
        | inl f ↦ absurd (f.1 e.0)
        | inr f ↦ (let m = e.1 in let n = f.1 in cc)
      ]
    ]

-- ---- refusals of a text

-- where two splits of a list part
parting : (b : List Spot) (x : Spot) (u c : List Spot) (y : Spot) (w : List Spot) → b ++ x ∷ u ≡ c ++ y ∷ w
    → ((b ≡ c) × (x ≡ y)) ⊎ (((m : List Spot) × (c ≡ b ++ x ∷ m)) ⊎ ((m : List Spot) × (b ≡ c ++ y ∷ m)))
parting [] x u [] y w e = inl (refl, cc)
parting [] x u (z ∷ c) y w e = let s : z ≡ x = cc in inr (inl (c, ap (λ o. o ∷ c) s))
parting (z ∷ b) x u [] y w e = let s : z ≡ y = cc in inr (inr (b, ap (λ o. o ∷ b) s))
parting (z ∷ b) x u (o ∷ c) y w e =
    let s : z ≡ o = cc in
    elim (parting b x u c y w (cc)) [
      | inl p ↦ inl ((λ i. s i ∷ p.0 i), p.1)
      | inr (inl p) ↦ inr (inl (p.0, ap (λ l. o ∷ l) p.1 ∙ ap (λ l. l ∷ (b ++ x ∷ p.0)) (sym s)))
      | inr (inr p) ↦ inr (inr (p.0, ap (λ l. z ∷ l) p.1 ∙ ap (λ l. l ∷ (c ++ y ∷ p.0)) s))
    ]

-- no text has a fault before what is well begun
no_earlier : (text : List ℕ) (f : Fault) (r : Faulty text f) (ts m : List Spot) → ts ≡ r.before ++ r.here ∷ m → Begins (words ts) → Clear nothing (words ts) → ⊥
no_earlier text f r ts m e b c =
    let s = ap words e ∙ words_split r.before r.here m in
    not_refused f.reason (words r.before) r.here.word (words m) (subst Begins s b) (subst (Clear nothing) s c) r.refuses

lawful_sound : (text : List ℕ) (t : Tree is_question) (f : Fault) → Lawful text t → Faulty text f → ⊥
lawful_sound text t f l r = no_earlier text f r (tokens text) r.behind r.split (t, [], append-nil _ ∙ l.derives) l.clear

one_fault : (text : List ℕ) (f g : Fault) → Faulty text f → Faulty text g → f ≡ g
one_fault text f g r s =
    elim (parting r.before r.here r.behind s.before s.here s.behind (sym r.split ∙ s.split)) [
      | inl p ↦
          (let here = p.1 in
          let place : f.at ≡ g.at = sym r.place ∙ ap (λ o. o.at) here ∙ s.place in
          let same = one_reason f.reason g.reason (words s.before) s.here.word (subst₂ (λ v o. Refuses f.reason (words v) o.word) p.0 p.1 r.refuses) s.refuses in
          λ i. record { reason = same i; at = place i })
      | inr (inl p) ↦ absurd (no_earlier text f r s.before p.0 p.1 s.begins s.clear)
      | inr (inr p) ↦ absurd (no_earlier text g s r.before p.0 p.1 r.begins r.clear)
    ]

-- ---- the laws

pub one_question : OneQuestion
one_question text q p a b =
    let tree = one_tree text a.tree b.tree a.lawful.derives b.lawful.derives in
    let pattern = a.pattern ∙ ap means tree ∙ sym b.pattern in
    let names = a.names ∙ sym b.names in
    let terms = a.terms ∙ sym b.terms in
    λ i. record { pattern = pattern i; names = names i; terms = terms i }

pub one_refusal : OneRefusal
one_refusal text TextTooLong TextTooLong a b = refl
one_refusal text TextTooLong TooManyNodes a b = absurd (omega (arith, b.1.short))
one_refusal text TextTooLong (At g) a b = absurd (omega arith)
one_refusal text TooManyNodes TextTooLong a b = absurd (omega (arith, a.1.short))
one_refusal text TooManyNodes TooManyNodes a b = refl
one_refusal text TooManyNodes (At g) a b = absurd (lawful_sound text a.0 g a.1 b.1)
one_refusal text (At f) TextTooLong a b = absurd (omega arith)
one_refusal text (At f) TooManyNodes a b = absurd (lawful_sound text b.0 f b.1 a.1)
one_refusal text (At f) (At g) a b = ap At (one_fault text f g a.1 b.1)

pub not_both : NotBoth
not_both text q TextTooLong a b = omega (arith, a.lawful.short)
not_both text q TooManyNodes a b =
    let tree = one_tree text a.tree b.0 a.lawful.derives b.1.derives in
    omega (arith, a.small, ap (λ t. nodes (means t)) tree)
not_both text q (At f) a b = lawful_sound text a.tree f a.lawful b.1
