-- Parts of a text: one more, and the first ones.
use Rattle.std.proofs.Common.{◌≡◌, ℕ, zero, suc, ◌+◌, ◌<◌, ◌≤◌, Bool, true, false, ltb, List, [], ◌∷◌, ◌++◌, map, length, get_or, take, drop, sym, refl, ap, ◌∙◌, subst, ap₂, arith, length-append, length-drop, take-append-drop, length-take, take_all, get_or-take, take-take, take_at, drop_at, ltb-false, ltb-true}
use lib.Seq.{take-append-le}
use Rattle.std.proofs.lemmas.List.{drop-append-le, get_or_append_left, get_or_push}
use Rattle.terms.specs.Terms.{Term}
use Rattle.terms.specs.declared.kind.Kind.{Kind}
use Rattle.lexicon.specs.declared.part.Part.{Part}
use Rattle.lexicon.specs.Numbering.{term, bytes_of}
use Rattle.lexicon.specs.Held.{kind_of}
use Rattle.lexicon.specs.Parts.{no_part, part_at, sizes, bytes_in, terms_in, no_term}

pub terms_count : (text : List ℕ) (ks : List Kind) (ps : List Part) → length ps ≡ length ks → length (terms_in text ks ps) ≡ length ks
terms_count text [] ps e = refl
terms_count text (k ∷ ks) [] e = absurd (omega (arith, e))
terms_count text (k ∷ ks) (p ∷ ps) e = ap suc (terms_count text ks ps (omega (arith, e)))

-- parts end within so many bytes
abbrev pub Inside : List Part → ℕ → Type 0
Inside ps n = (k : ℕ) → k < length ps → (part_at ps k).start + (part_at ps k).size ≤ n

-- each part starts where those before it end
abbrev pub Laid : List Part → Type 0
Laid ps = (k : ℕ) → k < length ps → (part_at ps k).start ≡ sizes (take k ps)

sizes_front : (ps : List Part) (k : ℕ) → k < length ps → sizes (take k ps) + (part_at ps k).size ≤ sizes ps
sizes_front [] k h = absurd (omega arith)
sizes_front (p ∷ ps) zero h = omega arith
sizes_front (p ∷ ps) (suc k) h = omega (arith, sizes_front ps k (omega arith))

pub laid_inside : (ps : List Part) → Laid ps → Inside ps (sizes ps)
laid_inside ps h k lt = omega (arith, h k lt, sizes_front ps k lt)

-- what stands in the front of a text is not changed by what is behind it
bytes_front : (text x : List ℕ) (p : Part) → p.start + p.size ≤ length text → bytes_in (text ++ x) p ≡ bytes_in text p
bytes_front text x p h =
    ap (take p.size) (drop-append-le p.start text x (omega arith)) ∙ take-append-le p.size (drop p.start text) x (simp length-drop (omega arith))

inside_rest : (p : Part) (ps : List Part) (n : ℕ) → Inside (p ∷ ps) n → Inside ps n
inside_rest p ps n h k lt = h (suc k) (omega arith)

pub terms_front : (text x : List ℕ) (ks : List Kind) (ps : List Part) → Inside ps (length text) → terms_in (text ++ x) ks ps ≡ terms_in text ks ps
terms_front text x [] ps h = refl
terms_front text x (k ∷ ks) [] h = refl
terms_front text x (k ∷ ks) (p ∷ ps) h =
    ap₂ (λ (w : List ℕ) (l : List Term). term k w ∷ l) (bytes_front text x p (h 0 (omega arith))) (terms_front text x ks ps (inside_rest p ps (length text) h))

pub bytes_sizes : (text : List ℕ) (ks : List Kind) (ps : List Part) → length ps ≡ length ks → Inside ps (length text) → bytes_of (terms_in text ks ps) ≡ sizes ps
bytes_sizes text [] [] e h = refl
bytes_sizes text [] (p ∷ ps) e h = absurd (omega (arith, e))
bytes_sizes text (k ∷ ks) [] e h = absurd (omega (arith, e))
bytes_sizes text (k ∷ ks) (p ∷ ps) e h =
    let here = h 0 (omega arith) in
    let one : length (take p.size (drop p.start text)) ≡ p.size = simp (length-take, length-drop) (omega arith) in
    ap₂ ◌+◌ one (bytes_sizes text ks ps (omega (arith, e)) (inside_rest p ps (length text) h))

-- the term at a place
pub terms_at : (text : List ℕ) (ks : List Kind) (ps : List Part) (i : ℕ) (k : Kind) → length ps ≡ length ks → i < length ks → get_or (terms_in text ks ps) i no_term ≡ term (get_or ks i k) (bytes_in text (part_at ps i))
terms_at text [] ps i k e h = absurd (omega arith)
terms_at text (k ∷ ks) [] i d e h = absurd (omega (arith, e))
terms_at text (k ∷ ks) (p ∷ ps) zero d e h = refl
terms_at text (k ∷ ks) (p ∷ ps) (suc i) d e h = terms_at text ks ps i d (omega (arith, e)) (omega arith)

pub terms_kinds : (text : List ℕ) (ks : List Kind) (ps : List Part) → length ps ≡ length ks → ks ≡ map kind_of (terms_in text ks ps)
terms_kinds text [] ps e = refl
terms_kinds text (k ∷ ks) [] e = absurd (omega (arith, e))
terms_kinds text (k ∷ ks) (p ∷ ps) e = ap (λ (l : List Kind). k ∷ l) (terms_kinds text ks ps (omega (arith, e)))

terms_append : (text : List ℕ) (ks js : List Kind) (ps qs : List Part) → length ps ≡ length ks → terms_in text (ks ++ js) (ps ++ qs) ≡ terms_in text ks ps ++ terms_in text js qs
terms_append text [] js [] qs e = refl
terms_append text [] js (p ∷ ps) qs e = absurd (omega (arith, e))
terms_append text (k ∷ ks) js [] qs e = absurd (omega (arith, e))
terms_append text (k ∷ ks) js (p ∷ ps) qs e = ap (λ (l : List Term). term k (bytes_in text p) ∷ l) (terms_append text ks js ps qs (omega (arith, e)))

-- one term more
pub terms_behind : (text x : List ℕ) (ks : List Kind) (ps : List Part) (k : Kind) (s n : ℕ) → length ps ≡ length ks → Inside ps (length text) → s ≡ length text → n ≡ length x → terms_in (text ++ x) (ks ++ k ∷ []) (ps ++ record { start = s; size = n } ∷ []) ≡ terms_in text ks ps ++ term k x ∷ []
terms_behind text x ks ps k s n e h es en =
    terms_append (text ++ x) ks (k ∷ []) ps (record { start = s; size = n } ∷ []) e
    ∙ ap₂ (λ (l : List Term) (w : List ℕ). l ++ term k w ∷ []) (terms_front text x ks ps h) (ap (take n) (drop_at text x s (sym es)) ∙ take_all n x (omega (arith, en)))

pub sizes_behind : (ps : List Part) (p : Part) → sizes (ps ++ p ∷ []) ≡ sizes ps + p.size
sizes_behind [] p = omega arith
sizes_behind (q ∷ ps) p = omega (arith, sizes_behind ps p)

pub laid_behind : (ps : List Part) (p : Part) → Laid ps → p.start ≡ sizes ps → Laid (ps ++ p ∷ [])
laid_behind ps p h e k lt = go (ltb k (length ps)) refl
  where
    go : (b : Bool) → ltb k (length ps) ≡ b → (part_at (ps ++ p ∷ []) k).start ≡ sizes (take k (ps ++ p ∷ []))
    go true t =
        let low = ltb-true k (length ps) t in
        ap (λ (q : Part). q.start) (get_or_append_left ps (p ∷ []) no_part k low) ∙ h k low ∙ ap sizes (sym (take-append-le k ps (p ∷ []) (omega arith)))
    go false t =
        let here : length ps ≡ k = omega (arith, ltb-false k (length ps) t, lt, length-append ps (p ∷ [])) in
        ap (λ (q : Part). q.start) (get_or_push ps p no_part k here) ∙ e ∙ ap sizes (sym (take_at ps (p ∷ []) k here))

-- the first ones
terms_take : (text : List ℕ) (ks : List Kind) (ps : List Part) (n : ℕ) → terms_in text (take n ks) (take n ps) ≡ take n (terms_in text ks ps)
terms_take text [] ps zero = refl
terms_take text [] ps (suc n) = refl
terms_take text (k ∷ ks) [] zero = refl
terms_take text (k ∷ ks) [] (suc n) = refl
terms_take text (k ∷ ks) (p ∷ ps) zero = refl
terms_take text (k ∷ ks) (p ∷ ps) (suc n) = ap (λ (l : List Term). term k (bytes_in text p) ∷ l) (terms_take text ks ps n)

pub laid_take : (ps : List Part) (n : ℕ) → Laid ps → Laid (take n ps)
laid_take ps n h k lt =
    let small : k < n = omega (arith, lt, length-take n ps) in
    ap (λ (q : Part). q.start) (get_or-take n ps k no_part small) ∙ h k (omega (arith, lt, length-take n ps)) ∙ ap sizes (sym (take-take k n ps (omega arith)))

pub sizes_take : (ps : List Part) (n : ℕ) → sizes (take n ps) ≤ sizes ps
sizes_take [] zero = omega arith
sizes_take [] (suc n) = omega arith
sizes_take (p ∷ ps) zero = omega arith
sizes_take (p ∷ ps) (suc n) = omega (arith, sizes_take ps n)

pub terms_cut : (text : List ℕ) (ks : List Kind) (ps : List Part) (n end : ℕ) → Laid ps → sizes ps ≡ length text → end ≡ sizes (take n ps) → terms_in (take end text) (take n ks) (take n ps) ≡ take n (terms_in text ks ps)
terms_cut text ks ps n end h w e =
    let size : length (take end text) ≡ sizes (take n ps) = length-take end text ∙ omega (arith, e, w, sizes_take ps n) in
    let ins = subst (Inside (take n ps)) (sym size) (laid_inside (take n ps) (laid_take ps n h)) in
    sym (terms_front (take end text) (drop end text) (take n ks) (take n ps) ins)
    ∙ ap (λ (t : List ℕ). terms_in t (take n ks) (take n ps)) (take-append-drop end text)
    ∙ terms_take text ks ps n
