-- The laws of page files.
use Rattle.std.proofs.Common.{◌≡◌, ℕ, suc, ◌+◌, ◌<◌, Bool, true, false, cond, not, eqb, ◌⊎◌, List, [], ◌∷◌, ◌++◌, length, Some, None, Option, sym, refl, ap, ◌∙◌, subst, ap₂, inl, inr, append_assoc, add-zero, arith}
use Rattle.std.proofs.lemmas.List.{append-nil, length-append}
use Rattle.std.proofs.lemmas.Slice.Eq.{bytes_eq-Decides}
use Rattle.std.proofs.lemmas.Bool.Decides.{not_from_Decides}
use Rattle.std.specs.Str.{bytes_eq}
use Rattle.terms.specs.Lawful.{is_iri}
use Rattle.terms.proofs.Runs.{run_more}
use Rattle.lines.specs.Lines.{lines, onto}
use Rattle.lines.specs.Readings.{nothing, opens, states, opening, statement, says, or_opens, or_states}
use Rattle.lines.specs.Runs.{differs}
use Rattle.lines.proofs.Cutting.{lines_nil, lines_cons, lines_first}
use Rattle.lines.proofs.Sayings.{says_nil, says_cons, says_opening}
use Rattle.web.specs.Meaning.{Triple, Looked, found, absent}
use Rattle.pages.specs.declared.cause.PageCause.{PageCause}
use Rattle.pages.specs.Pages.{Numbered, numbered, page_after, is_page, lines_on, with_stated, stated, fault_of, or_else, first_fault, judged_by, page_of, address}
use Rattle.pages.specs.Laws.{CutBeforeHash, FirstOpens, BeginsWithItsOpening, SameFor, OnlyItsLines, LastFeed, OpensOnly, OnePage, EndsLine, FurtherPage, NeverOpens, State, BeginPage, FoundWithItsTriples}
use Rattle.pages.proofs.Placing.{next, on_nil, on_next, on_says, off_pass, on_other, on_opens, on_stays}

-- ---- addresses

pub cut_before_hash : CutBeforeHash
cut_before_hash [] after h = (refl, refl)
cut_before_hash (b ∷ before) after h =
    let r = cut_before_hash before after h.1 in (
      run_more (differs 35) b before (ap not h.0) ∙ ap (λ y. b ∷ y) r.0,
      run_more (differs 35) b (before ++ (35 ∷ after)) (ap not h.0) ∙ ap (λ y. b ∷ y) r.1,
    )

-- ---- a line opens a page or none

-- what is open behind a line, by its opening
abbrev open_after : Option (List ℕ) → Option (List ℕ) → Option (List ℕ)
open_after p None = p
open_after p (Some b) = Some b

after_opening : (p : Option (List ℕ)) (l : List ℕ) → page_after p (says l) ≡ open_after p (opening l)
after_opening p [] = ap (page_after p) says_nil
after_opening p (b ∷ bs) = ap (page_after p) (says_cons b bs) ∙ go (opening (b ∷ bs)) (statement (b ∷ bs))
  where
    go : (o : Option (List ℕ)) (s : Option Triple) → page_after p (or_opens o (or_states s)) ≡ open_after p o
    go None None = refl
    go None (Some t) = refl
    go (Some a) s = refl

-- ---- only its lines

is_page_lem : (a : List ℕ) (q : Option (List ℕ)) → is_page a q ≡ true → q ≡ Some a
is_page_lem a None e = absurd cc
is_page_lem a (Some b) e = ap Some ((bytes_eq-Decides b a).0 e)

same_on : (a : List ℕ) (n : ℕ) (p : Option (List ℕ)) (ls ms : List (List ℕ)) → SameFor a p ls ms → lines_on a n p ls ≡ lines_on a n p ms
same_on a n p [] [] h = refl
same_on a n p [] (m ∷ ms) h = absurd h
same_on a n p (l ∷ ls) [] h = absurd h
same_on a n p (l ∷ ls) (m ∷ ms) h =
    let after : page_after p (says l) ≡ page_after p (says m) = after_opening p l ∙ ap (open_after p) h.0 ∙ sym (after_opening p m) in
    let rest : lines_on a (n + 1) (page_after p (says l)) ls ≡ lines_on a (n + 1) (page_after p (says m)) ms = same_on a (n + 1) (page_after p (says l)) ls ms h.2 ∙ ap (λ q. lines_on a (n + 1) q ms) after in
    on_next a n p l ls ∙ go (is_page a (page_after p (says l))) refl after rest ∙ sym (on_next a n p m ms)
  where
    go : (t : Bool) → is_page a (page_after p (says l)) ≡ t → page_after p (says l) ≡ page_after p (says m)
        → lines_on a (n + 1) (page_after p (says l)) ls ≡ lines_on a (n + 1) (page_after p (says m)) ms
        → cond t (numbered (n + 1) (says l) ∷ lines_on a (n + 1) (page_after p (says l)) ls) (lines_on a (n + 1) (page_after p (says l)) ls) ≡ next a n p (says m) ms
    go true e after rest =
        ap₂ (λ s ys. numbered (n + 1) s ∷ ys) (ap says (h.1 (is_page_lem a (page_after p (says l)) e))) rest
        ∙ sym (ap (λ t. cond t (numbered (n + 1) (says m) ∷ lines_on a (n + 1) (page_after p (says m)) ms) (lines_on a (n + 1) (page_after p (says m)) ms)) (ap (is_page a) (sym after) ∙ e))
    go false e after rest =
        rest
        ∙ sym (ap (λ t. cond t (numbered (n + 1) (says m) ∷ lines_on a (n + 1) (page_after p (says m)) ms) (lines_on a (n + 1) (page_after p (says m)) ms)) (ap (is_page a) (sym after) ∙ e))

abbrev at_address : List ℕ → List Numbered → Looked PageCause
at_address iri ls = cond (is_iri iri) (page_of ls) absent

pub only_its_lines : OnlyItsLines
only_its_lines file other iri h = ap (at_address iri) (same_on (address iri) 0 None (lines file) (lines other) h)

-- ---- lines behind lines

onto_append : (b : ℕ) (ys zs : List (List ℕ)) → 0 < length ys → onto b (ys ++ zs) ≡ onto b ys ++ zs
onto_append b [] zs h = absurd (omega arith)
onto_append b (y ∷ ys) zs h = refl

some_lines : (bs : List ℕ) → 0 < length (lines (bs ++ (10 ∷ [])))
some_lines bs = omega (arith, ap length (lines_first (bs ++ (10 ∷ [])) (omega (arith, length-append bs (10 ∷ [])))))

lines_behind : (bs page : List ℕ) → lines (bs ++ (10 ∷ page)) ≡ lines (bs ++ (10 ∷ [])) ++ lines page
lines_behind [] page = lines_cons 10 page ∙ sym (ap (λ ys. ys ++ lines page) (lines_cons 10 [] ∙ ap (λ ys. [] ∷ ys) lines_nil))
lines_behind (b ∷ bs) page =
    lines_cons b (bs ++ (10 ∷ page)) ∙ go (eqb b 10) (lines_behind bs page) ∙ sym (ap (λ ys. ys ++ lines page) (lines_cons b (bs ++ (10 ∷ []))))
  where
    go : (t : Bool) → lines (bs ++ (10 ∷ page)) ≡ lines (bs ++ (10 ∷ [])) ++ lines page
        → cond t ([] ∷ lines (bs ++ (10 ∷ page))) (onto b (lines (bs ++ (10 ∷ page)))) ≡ cond t ([] ∷ lines (bs ++ (10 ∷ []))) (onto b (lines (bs ++ (10 ∷ [])))) ++ lines page
    go true h = ap (λ ys. [] ∷ ys) h
    go false h = ap (onto b) h ∙ onto_append b (lines (bs ++ (10 ∷ []))) (lines page) (some_lines bs)

lines_further : (file page : List ℕ) → EndsLine file → lines (file ++ page) ≡ lines file ++ lines page
lines_further file page (inl e) = ap (λ f. lines (f ++ page)) e ∙ sym (ap (λ f. lines f ++ lines page) e ∙ ap (λ ys. ys ++ lines page) lines_nil)
lines_further file page (inr (bs, e)) =
    ap (λ f. lines (f ++ page)) e ∙ ap lines (append_assoc bs (10 ∷ []) page) ∙ lines_behind bs page ∙ sym (ap (λ f. lines f ++ lines page) e)

-- the page that is open behind lines
abbrev open_behind : Option (List ℕ) → List (List ℕ) → Option (List ℕ)
open_behind p [] = p
open_behind p (l ∷ ls) = open_behind (page_after p (says l)) ls

on_append : (a : List ℕ) (n : ℕ) (p : Option (List ℕ)) (ls ms : List (List ℕ)) → lines_on a n p (ls ++ ms) ≡ lines_on a n p ls ++ lines_on a (n + length ls) (open_behind p ls) ms
on_append a n p [] ms = ap (λ k. lines_on a k p ms) (sym (add-zero n)) ∙ sym (ap (λ ys. ys ++ lines_on a (n + 0) p ms) (on_nil a n p))
on_append a n p (l ∷ ls) ms =
    let q : Option (List ℕ) = page_after p (says l) in
    let k : n + 1 + length ls ≡ n + suc (length ls) = omega arith in
    on_next a n p l (ls ++ ms) ∙ go (is_page a q) (on_append a (n + 1) q ls ms ∙ ap (λ i. lines_on a (n + 1) q ls ++ lines_on a i (open_behind q ls) ms) k)
    ∙ sym (ap (λ ys. ys ++ lines_on a (n + suc (length ls)) (open_behind q ls) ms) (on_next a n p l ls))
  where
    go : (t : Bool) → lines_on a (n + 1) (page_after p (says l)) (ls ++ ms) ≡ lines_on a (n + 1) (page_after p (says l)) ls ++ lines_on a (n + suc (length ls)) (open_behind (page_after p (says l)) ls) ms
        → cond t (numbered (n + 1) (says l) ∷ lines_on a (n + 1) (page_after p (says l)) (ls ++ ms)) (lines_on a (n + 1) (page_after p (says l)) (ls ++ ms))
        ≡ cond t (numbered (n + 1) (says l) ∷ lines_on a (n + 1) (page_after p (says l)) ls) (lines_on a (n + 1) (page_after p (says l)) ls) ++ lines_on a (n + suc (length ls)) (open_behind (page_after p (says l)) ls) ms
    go true h = ap (λ ys. numbered (n + 1) (says l) ∷ ys) h
    go false h = h

-- ---- lines without an opening of the page

-- a line that does not open the page is passed while another is open
off_line : (a : List ℕ) (n : ℕ) (l : List ℕ) (ls : List (List ℕ)) → (says l ≡ opens a → ⊥) → lines_on a n None (l ∷ ls) ≡ lines_on a (n + 1) None ls
off_line a n l ls f = go (opening l) refl
  where
    go : (o : Option (List ℕ)) → opening l ≡ o → lines_on a n None (l ∷ ls) ≡ lines_on a (n + 1) None ls
    go None e = off_pass a n l ls e
    go (Some b) e = on_other a n None l b ls (says_opening l b e) (λ s. f (says_opening l b e ∙ ap opens s))

off_lines : (a : List ℕ) (n : ℕ) (ls ms : List (List ℕ)) → NeverOpens a ls → lines_on a n None (ls ++ ms) ≡ lines_on a (n + length ls) None ms
off_lines a n [] ms h = ap (λ k. lines_on a k None ms) (sym (add-zero n))
off_lines a n (l ∷ ls) ms h =
    let k : n + 1 + length ls ≡ n + suc (length ls) = omega arith in
    off_line a n l (ls ++ ms) h.0 ∙ off_lines a (n + 1) ls ms h.1 ∙ ap (λ i. lines_on a i None ms) k

off_all : (a : List ℕ) (n : ℕ) (ls : List (List ℕ)) → NeverOpens a ls → lines_on a n None ls ≡ []
off_all a n [] h = on_nil a n None
off_all a n (l ∷ ls) h = off_line a n l ls h.0 ∙ off_all a (n + 1) ls h.1

opens_same : (a b : List ℕ) → opens a ≡ opens b → a ≡ b
opens_same a b e = cc

only_never : (a d : List ℕ) (ls : List (List ℕ)) → OpensOnly d ls → (a ≡ d → ⊥) → NeverOpens a ls
only_never a d [] h f = tt
only_never a d (l ∷ ls) h f = ((λ e. f (h.0 a e)), only_never a d ls h.1 f)

-- a page of another name has no line on the page a
other_page : (a d : List ℕ) (n : ℕ) (p : Option (List ℕ)) (ls : List (List ℕ)) → OnePage d ls → (a ≡ d → ⊥) → lines_on a n p ls ≡ []
other_page a d n p [] h f = absurd h
other_page a d n p (l ∷ ls) h f = on_other a n p l d ls h.0 (λ e. f (sym e)) ∙ off_all a (n + 1) ls (only_never a d ls h.1 f)

pub further_page : FurtherPage
further_page file page iri a ends one f =
    let b : List ℕ = address iri in
    ap (at_address iri)
    (ap (lines_on b 0 None) (lines_further file page ends) ∙ on_append b 0 None (lines file) (lines page)
    ∙ ap (λ ys. lines_on b 0 None (lines file) ++ ys) (other_page b a (0 + length (lines file)) (open_behind None (lines file)) (lines page) one f) ∙ append-nil (lines_on b 0 None (lines file)))

-- ---- an LF at the file's end

-- it ends the last line, or it is an empty line more
lines_fed : (file : List ℕ) → (lines (file ++ (10 ∷ [])) ≡ lines file) ⊎ (lines (file ++ (10 ∷ [])) ≡ lines file ++ ([] ∷ []))
lines_fed [] = inr (lines_cons 10 [] ∙ ap (λ ys. [] ∷ ys) lines_nil ∙ sym (ap (λ ys. ys ++ ([] ∷ [])) lines_nil))
lines_fed (b ∷ bs) = elim (go (eqb b 10) bs (lines_fed bs)) [
  | inl e ↦ inl (lines_cons b (bs ++ (10 ∷ [])) ∙ e ∙ sym (lines_cons b bs))
  | inr e ↦ inr (lines_cons b (bs ++ (10 ∷ [])) ∙ e ∙ sym (ap (λ ys. ys ++ ([] ∷ [])) (lines_cons b bs)))
]
  where
    more : Bool → List ℕ → List (List ℕ)
    more t bs = cond t ([] ∷ lines bs) (onto b (lines bs))

    go : (t : Bool) (bs : List ℕ) → (lines (bs ++ (10 ∷ [])) ≡ lines bs) ⊎ (lines (bs ++ (10 ∷ [])) ≡ lines bs ++ ([] ∷ []))
        → (more t (bs ++ (10 ∷ [])) ≡ more t bs) ⊎ (more t (bs ++ (10 ∷ [])) ≡ more t bs ++ ([] ∷ []))
    go true bs (inl e) = inl (ap (λ ys. [] ∷ ys) e)
    go true bs (inr e) = inr (ap (λ ys. [] ∷ ys) e)
    go false bs (inl e) = inl (ap (onto b) e)
    go false [] (inr e) = inl (ap (onto b) (e ∙ ap (λ ys. ys ++ ([] ∷ [])) lines_nil) ∙ sym (ap (onto b) lines_nil))
    go false (d ∷ ds) (inr e) = inr (ap (onto b) e ∙ onto_append b (lines (d ∷ ds)) ([] ∷ []) (omega (arith, ap length (lines_first (d ∷ ds) (omega arith)))))

-- these lines state nothing, and none is at fault
abbrev Idle : List Numbered → Type 0
Idle ys = (first_fault ys ≡ None) × (stated ys ≡ [])

idle_behind : (xs ys : List Numbered) → Idle ys → (first_fault (xs ++ ys) ≡ first_fault xs) × (stated (xs ++ ys) ≡ stated xs)
idle_behind [] ys h = h
idle_behind (x ∷ xs) ys h = let r = idle_behind xs ys h in (ap (or_else (fault_of x.number x.what)) r.0, ap (with_stated x.what) r.1)

idle_empty : (a : List ℕ) (n : ℕ) (p : Option (List ℕ)) → Idle (lines_on a n p ([] ∷ []))
idle_empty a n p = subst Idle (sym (on_says a n p [] nothing [] says_nil)) (go (is_page a p))
  where
    none : Idle (lines_on a (n + 1) p [])
    none = subst Idle (sym (on_nil a (n + 1) p)) (refl, refl)

    go : (t : Bool) → Idle (cond t (numbered (n + 1) nothing ∷ lines_on a (n + 1) p []) (lines_on a (n + 1) p []))
    go true = none
    go false = none

empty_last : (a : List ℕ) (n : ℕ) (ls : List (List ℕ)) → page_of (lines_on a n None (ls ++ ([] ∷ []))) ≡ page_of (lines_on a n None ls)
empty_last a n [] = ap page_of (off_pass a n [] [] refl ∙ on_nil a (n + 1) None) ∙ sym (ap page_of (on_nil a n None))
empty_last a n (l ∷ ls) = go (opening l) refl (empty_last a (n + 1) ls)
  where
    named : (b : List ℕ) (t : Bool) → bytes_eq b a ≡ t → opening l ≡ Some b → page_of (lines_on a (n + 1) None (ls ++ ([] ∷ []))) ≡ page_of (lines_on a (n + 1) None ls)
        → page_of (lines_on a n None (l ∷ (ls ++ ([] ∷ [])))) ≡ page_of (lines_on a n None (l ∷ ls))
    named b true e o h =
        let says-it = says_opening l b o in
        let this = (bytes_eq-Decides b a).0 e in
        let joined = on_append a (n + 1) (Some a) ls ([] ∷ []) in
        let idle = idle_behind (lines_on a (n + 1) (Some a) ls) (lines_on a (n + 1 + length ls) (open_behind (Some a) ls) ([] ∷ [])) (idle_empty a (n + 1 + length ls) (open_behind (Some a) ls)) in
        ap page_of (on_opens a n None l b (ls ++ ([] ∷ [])) says-it this) ∙ ap₂ judged_by (ap first_fault joined ∙ idle.0) (ap stated joined ∙ idle.1)
        ∙ sym (ap page_of (on_opens a n None l b ls says-it this))
    named b false e o h =
        let says-it = says_opening l b o in
        let apart = not_from_Decides (bytes_eq b a) (bytes_eq-Decides b a) e in
        ap page_of (on_other a n None l b (ls ++ ([] ∷ [])) says-it apart) ∙ h ∙ sym (ap page_of (on_other a n None l b ls says-it apart))

    go : (o : Option (List ℕ)) → opening l ≡ o → page_of (lines_on a (n + 1) None (ls ++ ([] ∷ []))) ≡ page_of (lines_on a (n + 1) None ls)
        → page_of (lines_on a n None (l ∷ (ls ++ ([] ∷ [])))) ≡ page_of (lines_on a n None (l ∷ ls))
    go None e h = ap page_of (off_pass a n l (ls ++ ([] ∷ [])) e) ∙ h ∙ sym (ap page_of (off_pass a n l ls e))
    go (Some b) e h = named b (bytes_eq b a) refl e h

pub last_feed : LastFeed
last_feed file iri = ap (λ (l : Looked PageCause). cond (is_iri iri) l absent) (elim (lines_fed file) [
  | inl e ↦ ap (λ ls. page_of (lines_on (address iri) 0 None ls)) e
  | inr e ↦ ap (λ ls. page_of (lines_on (address iri) 0 None ls)) e ∙ empty_last (address iri) 0 (lines file)
])

-- ---- the first line on a page

first_opens : (a : List ℕ) (n : ℕ) (ls : List (List ℕ)) → FirstOpens a (lines_on a n None ls)
first_opens a n [] = subst (FirstOpens a) (sym (on_nil a n None)) tt
first_opens a n (l ∷ ls) = go (opening l) refl (first_opens a (n + 1) ls)
  where
    named : (b : List ℕ) (t : Bool) → bytes_eq b a ≡ t → opening l ≡ Some b → FirstOpens a (lines_on a (n + 1) None ls) → FirstOpens a (lines_on a n None (l ∷ ls))
    named b true e o h = subst (FirstOpens a) (sym (on_opens a n None l b ls (says_opening l b o) ((bytes_eq-Decides b a).0 e))) refl
    named b false e o h =
        subst (FirstOpens a) (sym (on_other a n None l b ls (says_opening l b o) (not_from_Decides (bytes_eq b a) (bytes_eq-Decides b a) e))) h

    go : (o : Option (List ℕ)) → opening l ≡ o → FirstOpens a (lines_on a (n + 1) None ls) → FirstOpens a (lines_on a n None (l ∷ ls))
    go None e h = subst (FirstOpens a) (sym (off_pass a n l ls e)) h
    go (Some b) e h = named b (bytes_eq b a) refl e h

pub begins_with_its_opening : BeginsWithItsOpening
begins_with_its_opening file a = first_opens a 0 (lines file)

-- ---- a page without fault

-- the lines of a page that states triples, and those behind them
record Stating (a : List ℕ) (n : ℕ) (page after : List (List ℕ)) (ts : List Triple) : Type 0 where
  lines_of : List Numbered
  goes : lines_on a n (Some a) (page ++ after) ≡ lines_of ++ lines_on a (n + length page) (Some a) after
  good : first_fault lines_of ≡ None
  all : stated lines_of ≡ ts

stating : (a : List ℕ) (n : ℕ) (page after : List (List ℕ)) (ts : List Triple) → State ts page → Stating a n page after ts
stating a n [] after ts e = record { lines_of = []; goes = ap (λ k. lines_on a k (Some a) after) (sym (add-zero n)); good = refl; all = sym e }
stating a n (l ∷ page) after ts (inl (s, h)) =
    let r = stating a (n + 1) page after ts h in
    let k : n + 1 + length page ≡ n + suc (length page) = omega arith in
    record {
      lines_of = numbered (n + 1) nothing ∷ r.lines_of;
      goes = on_stays a n l nothing (page ++ after) s tt ∙ ap (λ ys. numbered (n + 1) nothing ∷ ys) (r.goes ∙ ap (λ i. r.lines_of ++ lines_on a i (Some a) after) k);
      good = r.good;
      all = r.all;
    }
stating a n (l ∷ page) after ts (inr (t, us, e, s, h)) =
    let r = stating a (n + 1) page after us h in
    let k : n + 1 + length page ≡ n + suc (length page) = omega arith in
    record {
      lines_of = numbered (n + 1) (states t) ∷ r.lines_of;
      goes = on_stays a n l (states t) (page ++ after) s tt ∙ ap (λ ys. numbered (n + 1) (states t) ∷ ys) (r.goes ∙ ap (λ i. r.lines_of ++ lines_on a i (Some a) after) k);
      good = r.good;
      all = ap (λ xs. t ∷ xs) r.all ∙ sym e;
    }

-- what stands behind the page is not on it
behind_page : (a : List ℕ) (n : ℕ) (after : List (List ℕ)) → BeginPage after → NeverOpens a after → lines_on a n (Some a) after ≡ []
behind_page a n [] b h = on_nil a n (Some a)
behind_page a n (l ∷ ls) (b, e) h = on_other a n (Some a) l b ls e (λ s. h.0 (e ∙ ap opens s)) ∙ off_all a (n + 1) ls h.1

pub found_with_its_triples : FoundWithItsTriples
found_with_its_triples file iri first before page after ts i e never opened state begins last =
    let a : List ℕ = address iri in
    let n : ℕ = 0 + length before in
    let r = stating a (n + 1) page after ts state in
    let on : lines_on a 0 None (lines file) ≡ numbered (n + 1) (opens a) ∷ r.lines_of =
    ap (lines_on a 0 None) e ∙ off_lines a 0 before (first ∷ (page ++ after)) never ∙ on_opens a n None first a (page ++ after) opened refl
    ∙ ap (λ ys. numbered (n + 1) (opens a) ∷ ys)
    (r.goes ∙ ap (λ ys. r.lines_of ++ ys) (behind_page a (n + 1 + length page) after begins last) ∙ append-nil r.lines_of) in
    ap (λ t. cond t (page_of (lines_on a 0 None (lines file))) absent) i ∙ ap page_of on ∙ ap (λ o. judged_by o (stated r.lines_of)) r.good ∙ ap found r.all
