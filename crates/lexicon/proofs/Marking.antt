-- A term with its marks, written at the front of a buffer.
use Rattle.std.proofs.Common.{◌≡◌, ℕ, suc, ◌+◌, ◌-◌, ◌<◌, ◌≤◌, true, false, cond, leb, List, [], ◌∷◌, ◌++◌, length, get_or, drop, set, Some, Ok, Err, Option, sym, ap, ◌∙◌, append_assoc, arith, length-append, le-leb}
use borrow.Author.Tests.{lt-leb}
use borrow.Rule.Slice.PartMut.{put_mid}
use Rattle.std.proofs.lemmas.List.{drop_more, set_at}
use Rattle.terms.specs.Terms.{Term}
use Rattle.terms.specs.declared.unwritten.Unwritten.TheVariants.{TooShort}
use Rattle.terms.specs.Marks.{closing}
use Rattle.lexicon.specs.Spelling.{spelling, spells, spelled}

pub written : (out x : List ℕ) (b e : ℕ) → length x + 2 ≤ length out → set (put_mid 1 ((length x + 1) - 1) (set out 0 b) x) (length x + 1) e ≡ b ∷ ((x ++ e ∷ []) ++ drop (length x + 2) out)
written [] x b e h = absurd (omega arith)
written (o ∷ []) x b e h = absurd (omega arith)
written (o ∷ p ∷ os) x b e h =
    let n : (length x + 1) - 1 ≡ length x = omega arith in
    let m : suc (length x + 1) ≡ length x + 2 = omega arith in
    let k : suc (length x) ≡ length x + 1 = omega arith in
    ap (λ i. set (b ∷ (x ++ drop i (p ∷ os))) (length x + 1) e) n
    ∙ ap (λ (l : List ℕ). set (b ∷ (x ++ l)) (length x + 1) e) (drop_more (p ∷ os) (length x) 0 (omega arith))
    ∙ set_at (b ∷ x) (get_or (p ∷ os) (length x) 0) (drop (length x + 1) (p ∷ os)) e (length x + 1) k
    ∙ ap (λ (l : List ℕ). b ∷ l) (sym (append_assoc x (e ∷ []) (drop (length x + 1) (p ∷ os))))
    ∙ ap (λ i. b ∷ ((x ++ e ∷ []) ++ drop i (o ∷ p ∷ os))) m

size : (t : Term) → length (spelling t) ≡ length t.bytes + 2
size t = omega (arith, length-append t.bytes (closing t.kind ∷ []))

pub spell_fits : (o : Option Term) (t : Term) (buffer : List ℕ) (n : ℕ) → Some t ≡ o → n ≡ length t.bytes + 2 → n ≤ length buffer → (Ok n ≡ spells o buffer) × (spelling t ++ drop n buffer ≡ spelled o buffer)
spell_fits o t buffer n e en h =
    let s : n ≡ length (spelling t) = en ∙ sym (size t) in
    let f : leb (length (spelling t)) (length buffer) ≡ true = le-leb _ _ (omega (arith, s, h)) in (
      ap Ok s ∙ sym (ap (λ b. cond b (Ok (length (spelling t))) (Err TooShort)) f) ∙ ap (λ p. spells p buffer) e,
      ap (λ k. spelling t ++ drop k buffer) s ∙ sym (ap (λ b. cond b (spelling t ++ drop (length (spelling t)) buffer) buffer) f) ∙ ap (λ p. spelled p buffer) e,
    )

pub spell_short : (o : Option Term) (t : Term) (buffer : List ℕ) → Some t ≡ o → length buffer < length t.bytes + 2 → (Err TooShort ≡ spells o buffer) × (buffer ≡ spelled o buffer)
spell_short o t buffer e h =
    let f : leb (length (spelling t)) (length buffer) ≡ false = lt-leb _ _ (omega (arith, size t, h)) in (
      sym (ap (λ b. cond b (Ok (length (spelling t))) (Err TooShort)) f) ∙ ap (λ p. spells p buffer) e,
      sym (ap (λ b. cond b (spelling t ++ drop (length (spelling t)) buffer) buffer) f) ∙ ap (λ p. spelled p buffer) e,
    )
