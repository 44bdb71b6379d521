-- A term in its marks.
use Rattle.std.proofs.Common.{◌≡◌, ℕ, Bool, true, false, cond, ◌&&◌, leb, List, [], ◌∷◌, length, take, take_while, drop, Some, None, Option, sym, refl, ap, ◌∙◌}
use Rattle.std.specs.List.{list_all}
use Rattle.terms.specs.Lawful.{lawful_bytes, fitting}
use Rattle.terms.specs.Marks as mark
use Rattle.terms.specs.Bytes.{iri_byte, literal_byte}
use Rattle.terms.specs.declared.kind.Kind.{Kind}
use Rattle.terms.specs.declared.kind.Kind.TheVariants.{Iri, Literal}
use Rattle.terms.proofs.Runs.{run_take, run_all}
use Rattle.lines.specs.Readings.{Cut, and_then, behind, closed, marked}
use Rattle.lines.specs.Runs.{term_byte}
use Rattle.lines.proofs.Fronted.{then_some, then_none}

abbrev pub cut : List ℕ → List ℕ → Cut
cut x r = record { bytes = x; rest = r }

with_true : (b t : Bool) → t ≡ true → (b && t) ≡ b
with_true true t e = e
with_true false t e = refl

-- of a run only the number of its bytes is left to test
pub run_lawful : (kind : Kind) (bs : List ℕ) → lawful_bytes kind (take_while (term_byte kind) bs) ≡ fitting kind (length (take_while (term_byte kind) bs))
run_lawful Iri bs = with_true (leb 1 (length (take_while iri_byte bs)) && leb (length (take_while iri_byte bs)) 128) (list_all iri_byte (take_while iri_byte bs)) (run_all iri_byte bs)
run_lawful Literal bs = with_true (leb (length (take_while literal_byte bs)) 128) (list_all literal_byte (take_while literal_byte bs)) (run_all literal_byte bs)

closed_at : (kind : Kind) (bs : List ℕ) (t : Bool) → fitting kind (length (take_while (term_byte kind) bs)) ≡ t
    → closed kind (take_while (term_byte kind) bs) bs ≡ cond t (and_then (behind (mark.closing kind ∷ []) (drop (length (take_while (term_byte kind) bs)) bs)) (λ r. Some (cut (take_while (term_byte kind) bs) r))) None
closed_at kind bs t e =
    ap (λ t. cond t (and_then (behind (mark.closing kind ∷ []) (drop (length (take_while (term_byte kind) bs)) bs)) (λ r. Some (cut (take_while (term_byte kind) bs) r))) None) (run_lawful kind bs ∙ e)

abbrev inside : Kind → List ℕ → Option Cut
inside kind bs = closed kind (take_while (term_byte kind) bs) bs

pub marked_read : (kind : Kind) (line bs x rest r : List ℕ) (n : ℕ) → behind (mark.opening kind ∷ []) line ≡ Some bs → n ≡ length (take_while (term_byte kind) bs) → true ≡ fitting kind n
    → x ≡ take n bs → rest ≡ drop n bs → behind (mark.closing kind ∷ []) rest ≡ Some r → marked kind line ≡ Some (cut x r)
marked_read kind line bs x rest r n o l f i d c =
    let front-is : x ≡ take_while (term_byte kind) bs = i ∙ ap (λ k. take k bs) l ∙ run_take (term_byte kind) bs in
    let rest-is : behind (mark.closing kind ∷ []) (drop (length (take_while (term_byte kind) bs)) bs) ≡ Some r = ap (λ k. behind (mark.closing kind ∷ []) (drop k bs)) (sym l) ∙ ap (behind (mark.closing kind ∷ [])) (sym d) ∙ c in
    then_some (inside kind) bs o ∙ closed_at kind bs true (ap (fitting kind) (sym l) ∙ sym f)
    ∙ then_some (λ q. Some (cut (take_while (term_byte kind) bs) q)) r rest-is ∙ ap (λ y. Some (cut y r)) (sym front-is)

-- the same, with the marks as the code has them
pub term_read : (kind : Kind) (line bs x rest r : List ℕ) (n m w : ℕ) → m ≡ mark.opening kind → w ≡ mark.closing kind → behind (m ∷ []) line ≡ Some bs → n ≡ length (take_while (term_byte kind) bs)
    → true ≡ fitting kind n → x ≡ take n bs → rest ≡ drop n bs → behind (w ∷ []) rest ≡ Some r → marked kind line ≡ Some (cut x r)
term_read kind line bs x rest r n m w p q o l f i d c =
    marked_read kind line bs x rest r n (ap (λ b. behind (b ∷ []) line) (sym p) ∙ o) l f i d (ap (λ b. behind (b ∷ []) rest) (sym q) ∙ c)

-- a run that may not be a term, and one with no mark behind it
pub term_unfit : (kind : Kind) (line bs : List ℕ) (n m : ℕ) → m ≡ mark.opening kind → behind (m ∷ []) line ≡ Some bs → n ≡ length (take_while (term_byte kind) bs) → false ≡ fitting kind n → marked kind line ≡ None
term_unfit kind line bs n m p o l f =
    then_some (inside kind) bs (ap (λ b. behind (b ∷ []) line) (sym p) ∙ o) ∙ closed_at kind bs false (ap (fitting kind) (sym l) ∙ sym f)

pub term_unclosed : (kind : Kind) (line bs rest : List ℕ) (n m w : ℕ) → m ≡ mark.opening kind → w ≡ mark.closing kind → behind (m ∷ []) line ≡ Some bs → n ≡ length (take_while (term_byte kind) bs)
    → true ≡ fitting kind n → rest ≡ drop n bs → behind (w ∷ []) rest ≡ None → marked kind line ≡ None
term_unclosed kind line bs rest n m w p q o l f d c =
    then_some (inside kind) bs (ap (λ b. behind (b ∷ []) line) (sym p) ∙ o) ∙ closed_at kind bs true (ap (fitting kind) (sym l) ∙ sym f)
    ∙ then_none (λ r. Some (cut (take_while (term_byte kind) bs) r))
    (ap (λ k. behind (mark.closing kind ∷ []) (drop k bs)) (sym l) ∙ ap (behind (mark.closing kind ∷ [])) (sym d) ∙ ap (λ b. behind (b ∷ []) rest) (sym q) ∙ c)
