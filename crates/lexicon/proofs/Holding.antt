-- What a lexicon says of the terms that it holds.
use Rattle.std.proofs.Common.{◌≡◌, ℕ, suc, ◌+◌, ◌-◌, ◌<◌, ◌≤◌, true, false, List, [], ◌∷◌, ◌++◌, map, length, get_or, take, drop, Some, sym, refl, ap, ◌∙◌, subst, ap₂, arith, length-append}
use Rattle.room.specs.Items.{items}
use Rattle.terms.specs.Terms.{Term}
use Rattle.terms.specs.declared.kind.Kind.{Kind}
use Rattle.terms.specs.declared.kind.Kind.TheVariants.{Literal}
use Rattle.std.proofs.lemmas.List.{get_or_read}
use Rattle.lexicon.specs.declared.lexicon.Lexicon.{Lexicon}
use Rattle.lexicon.proofs.Numbers.{term_at_lem, enter_new, bytes_append, is_within, too_many, too_long}
use Rattle.lexicon.specs.Numbering.{term, term_at, number_of, enter, bytes_of, within}
use Rattle.lexicon.specs.declared.part.Part.{Part}
use Rattle.lexicon.specs.Parts.{no_part, part_at, sizes, bytes_in, terms_in, no_term}
use Rattle.lexicon.specs.Held.{held, kind_of}
use Rattle.lexicon.proofs.Cutting.{Inside, laid_inside, terms_count, bytes_sizes, terms_at, terms_kinds, terms_behind, terms_cut}

pub inside : (l : Lexicon) → Inside (items l.parts) (length (items l.text))
inside l = subst (Inside (items l.parts)) l.whole (laid_inside (items l.parts) l.starts)

pub held_count : (l : Lexicon) → length (held l) ≡ length (items l.kinds)
held_count l = terms_count (items l.text) (items l.kinds) (items l.parts) l.paired

pub held_few : (l : Lexicon) → length (held l) ≤ 1024
held_few l = omega (arith, held_count l, l.kinds.few)

pub held_bytes : (l : Lexicon) → bytes_of (held l) ≡ length (items l.text)
held_bytes l = bytes_sizes (items l.text) (items l.kinds) (items l.parts) l.paired (inside l) ∙ l.whole

pub held_kinds : (l : Lexicon) → items l.kinds ≡ map kind_of (held l)
held_kinds l = terms_kinds (items l.text) (items l.kinds) (items l.parts) l.paired

pub held_at : (l : Lexicon) (i : ℕ) (k : Kind) → i < length (items l.kinds) → get_or (held l) i no_term ≡ term (get_or (items l.kinds) i k) (bytes_in (items l.text) (part_at (items l.parts) i))
held_at l i k h = terms_at (items l.text) (items l.kinds) (items l.parts) i k l.paired h

pub part_ends : (l : Lexicon) (i : ℕ) (p : Part) → i < length (items l.kinds) → p ≡ part_at (items l.parts) i → p.start + p.size ≤ length (items l.text)
part_ends l i p h e = subst (λ (q : Part). q.start + q.size ≤ length (items l.text)) (sym e) (inside l i (omega (arith, h, l.paired)))

pub bytes_read : (l : Lexicon) (i : ℕ) (p : Part) (text : List ℕ) → i < length (items l.kinds) → p ≡ part_at (items l.parts) i → text ≡ items l.text → take ((p.start + p.size) - p.start) (drop p.start text) ≡ (get_or (held l) i no_term).bytes
bytes_read l i p text h e et =
    let n : (p.start + p.size) - p.start ≡ p.size = omega arith in
    ap₂ (λ (k : ℕ) (t : List ℕ). take k (drop p.start t)) n et ∙ ap (bytes_in (items l.text)) e ∙ sym (ap (λ (t : Term). t.bytes) (held_at l i Literal h))

pub kind_read : (l : Lexicon) (i : ℕ) (d : Kind) → i < length (items l.kinds) → get_or (items l.kinds) i d ≡ (get_or (held l) i no_term).kind
kind_read l i d h = sym (ap (λ (t : Term). t.kind) (held_at l i d h))

pub term_read : (l : Lexicon) (n i : ℕ) (k : Kind) (x : List ℕ) → suc i ≡ n → i < length (items l.kinds) → k ≡ get_or (items l.kinds) i k → x ≡ (get_or (held l) i no_term).bytes → Some (term k x) ≡ term_at (held l) n
term_read l n i k x en h ek ex =
    ap₂ (λ (j : Kind) (y : List ℕ). Some (term j y)) (ek ∙ kind_read l i k h) ex ∙ sym (term_at_lem (held l) i no_term (omega (arith, h, held_count l))) ∙ ap (term_at (held l)) en

-- ---- changes

pub held_within : (l : Lexicon) → within (held l) ≡ true
held_within l = is_within (held l) (omega (arith, held_count l, l.kinds.few)) (omega (arith, held_bytes l, l.text.few))

pub full_terms : (l : Lexicon) (t : Term) → number_of (held l) t ≡ 0 → 1024 ≤ length (items l.kinds) → within (enter (held l) t) ≡ false
full_terms l t z h = too_many (enter (held l) t) (omega (arith, h, held_count l, ap length (enter_new (held l) t z), length-append (held l) (t ∷ [])))

pub full_text : (l : Lexicon) (t : Term) → number_of (held l) t ≡ 0 → 32768 < length (items l.text) + length t.bytes → within (enter (held l) t) ≡ false
full_text l t z h = too_long (enter (held l) t) (omega (arith, h, held_bytes l, ap bytes_of (enter_new (held l) t z), bytes_append (held l) (t ∷ [])))

pub held_behind : (l : Lexicon) (text : List ℕ) (ks : List Kind) (ps : List Part) (k : Kind) (x : List ℕ) (s : ℕ) → s ≡ length (items l.text) → text ≡ items l.text ++ x → ks ≡ items l.kinds ++ k ∷ [] → ps ≡ items l.parts ++ record { start = s; size = length x } ∷ [] → terms_in text ks ps ≡ held l ++ term k x ∷ []
held_behind l text ks ps k x s e et ek ep =
    (λ i. terms_in (et i) (ek i) (ep i))
    ∙ terms_behind (items l.text) x (items l.kinds) (items l.parts) k s (length x) l.paired (inside l) e refl

pub fits_behind : (l : Lexicon) (t : Term) → length (items l.kinds) < 1024 → length (items l.text) + length t.bytes ≤ 32768 → within (held l ++ t ∷ []) ≡ true
fits_behind l t few short = is_within (held l ++ t ∷ []) (omega (arith, few, held_count l, length-append (held l) (t ∷ []))) (omega (arith, short, held_bytes l, bytes_append (held l) (t ∷ [])))

-- where the part at a place starts
pub start_read : (l : Lexicon) (i : ℕ) (p : Part) → i < length (items l.parts) → p ≡ get_or (items l.parts) i p → p.start ≡ sizes (take i (items l.parts))
start_read l i p h e = ap (λ (q : Part). q.start) (get_or_read (items l.parts) i p h e no_part) ∙ l.starts i h

pub held_cut : (l : Lexicon) (n end : ℕ) (text : List ℕ) (ks : List Kind) (ps : List Part) → end ≡ sizes (take n (items l.parts)) → text ≡ take end (items l.text) → ks ≡ take n (items l.kinds) → ps ≡ take n (items l.parts) → terms_in text ks ps ≡ take n (held l)
held_cut l n end text ks ps e et ek ep =
    (λ i. terms_in (et i) (ek i) (ep i))
    ∙ terms_cut (items l.text) (items l.kinds) (items l.parts) n end l.starts l.whole e
