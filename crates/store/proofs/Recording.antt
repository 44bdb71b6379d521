-- The record, and where its lists stand.
use Rattle.std.proofs.Common.{◌≡◌, ℕ, zero, suc, ◌+◌, ◌<◌, ◌≤◌, Bool, true, false, ltb, List, [], ◌∷◌, ◌++◌, length, get_or, take, Ok, Err, sym, refl, ap, ◌∙◌, arith, length-append, take_at, ltb-false, ltb-true}
use lib.Seq.{take-append-le}
use Rattle.std.proofs.lemmas.List.{get_or_append_left, get_or_push}
use Rattle.room.specs.Items.{items}
use Rattle.shelf.specs.declared.items.Noted.{Noted}
use Rattle.shelf.specs.Contexts.{size}
use Rattle.store.specs.declared.record.Entry.{Entry}
use Rattle.store.specs.declared.store.Store.{Store}
use Rattle.store.specs.Places.{counts, noted_at, no_noted, entries_of}
use Rattle.store.specs.State.{placed, traced}
use Rattle.store.specs.View.{view}

entries_count : (ns : List Noted) → length (entries_of ns) ≡ length ns
entries_count [] = refl
entries_count (n ∷ ns) = ap suc (entries_count ns)

pub entries_behind : (ns : List Noted) (n : Noted) → entries_of (ns ++ n ∷ []) ≡ entries_of ns ++ record { iri = n.iri; mark = n.mark } ∷ []
entries_behind [] n = refl
entries_behind (j ∷ ns) n = ap (λ (l : List Entry). record { iri = j.iri; mark = j.mark } ∷ l) (entries_behind ns n)

pub traced_at : (ns : List Noted) (k : ℕ) (n : Noted) → k < length ns → n ≡ get_or ns k n → Ok (record { iri = n.iri; mark = n.mark }) ≡ traced (entries_of ns) k
traced_at [] k n h a = absurd (omega arith)
traced_at (j ∷ ns) zero n h a = ap (λ (x : Noted). Ok (record { iri = x.iri; mark = x.mark })) a
traced_at (j ∷ ns) (suc k) n h a = traced_at ns k n (omega arith) a

pub traced_past : (ns : List Noted) (k : ℕ) → length ns ≤ k → Err (record {}) ≡ traced (entries_of ns) k
traced_past [] k h = refl
traced_past (n ∷ ns) zero h = absurd (omega arith)
traced_past (n ∷ ns) (suc k) h = traced_past ns k (omega arith)

are_placed : (ns : List Noted) (first : ℕ) → ((k : ℕ) → k < length ns → (noted_at ns k).first ≡ first + counts (take k ns)) → ns ≡ placed first (entries_of ns)
are_placed [] first f = refl
are_placed (n ∷ ns) first f =
    let a : n.first ≡ first = omega (arith, f 0 (omega arith)) in
    let rest = are_placed ns (first + size n.mark) (λ k h. omega (arith, f (suc k) (omega arith))) in
    (λ i. record { iri = n.iri; mark = n.mark; first = a i } ∷ rest i)

-- ---- of a store

pub view_count : (s : Store) → length (view s).entries ≡ length (items s.noted)
view_count s = entries_count (items s.noted)

pub view_placed : (s : Store) → items s.noted ≡ placed 0 (view s).entries
view_placed s = are_placed (items s.noted) 0 (λ k h. omega (arith, s.firsts k h))

-- ---- one entry more

pub counts_behind : (ns : List Noted) (n : Noted) → counts (ns ++ n ∷ []) ≡ counts ns + size n.mark
counts_behind [] n = omega arith
counts_behind (j ∷ ns) n = omega (arith, counts_behind ns n)

abbrev pub Firsts : List Noted → Type 0
Firsts ns = (k : ℕ) → k < length ns → (noted_at ns k).first ≡ counts (take k ns)

pub firsts_behind : (ns : List Noted) (n : Noted) → Firsts ns → n.first ≡ counts ns → Firsts (ns ++ n ∷ [])
firsts_behind ns n h f k lt = go (ltb k (length ns)) refl
  where
    go : (b : Bool) → ltb k (length ns) ≡ b → (noted_at (ns ++ n ∷ []) k).first ≡ counts (take k (ns ++ n ∷ []))
    go true t =
        let low = ltb-true k (length ns) t in
        ap (λ (x : Noted). x.first) (get_or_append_left ns (n ∷ []) no_noted k low) ∙ h k low ∙ ap counts (sym (take-append-le k ns (n ∷ []) (omega arith)))
    go false t =
        let here : length ns ≡ k = omega (arith, ltb-false k (length ns) t, lt, length-append ns (n ∷ [])) in
        ap (λ (x : Noted). x.first) (get_or_push ns n no_noted k here) ∙ f ∙ ap counts (sym (take_at ns (n ∷ []) k here))
