-- The meaning of a page file keeps the laws of every Web. That a list has at most 65,535 triples follows from the length of the file: each line has a byte of
-- its own (its LF, or its last byte), and the page's opening states nothing. The trait asks for these proofs as its law, so they stand here.
use Rattle.std.specs.Prelude.{◌≡◌, ℕ, suc, ◌+◌, ◌≤◌, Bool, true, false, cond, List, [], ◌∷◌, length, Some, None, Option, ◌==◌, nat_le, refl}
use Rattle.std.proofs.Common.{arith, leb-true}
use Rattle.std.proofs.lemmas.Bool.{and_from, and_parts}
use Rattle.terms.specs.Lawful.{is_iri}
use Rattle.web.specs.Laws.{Lawful, lawful_triple, lawful_triples}
use Rattle.web.specs.Meaning.{Triple, absent, triples}
use Rattle.pages.specs.declared.cause.PageCause.{PageCause}
use Rattle.lines.specs.Lines.{lines, onto}
use Rattle.lines.specs.Readings.{Said, nothing, opens, states, unreadable, says, statement, opening, or_opens, or_states}
use Rattle.lines.specs.Parts.{statement_lawful}
use Rattle.pages.specs.Pages.{Numbered, numbered, page_after, is_page, lines_on, with_stated, stated, first_fault, judged_by, page_of, address, page_at, page_meaning, web_meaning}

-- ---- how many lines and triples

onto_long : (b : ℕ) (ls : List (List ℕ)) (n : ℕ) → length ls ≤ n → length (onto b ls) ≤ suc n
onto_long b [] n h = omega arith
onto_long b (l ∷ ls) n h = omega arith

lines_few : (file : List ℕ) → length (lines file) ≤ length file
unfolding lines
lines_few [] = omega arith
lines_few (b ∷ bs) = go (b == 10) (lines_few bs)
  where
    go : (t : Bool) → length (lines bs) ≤ length bs → length (cond t ([] ∷ lines bs) (onto b (lines bs))) ≤ suc (length bs)
    go true h = omega arith
    go false h = onto_long b (lines bs) (length bs) h

on_few : (a : List ℕ) (n : ℕ) (p : Option (List ℕ)) (ls : List (List ℕ)) → length (lines_on a n p ls) ≤ length ls
unfolding lines_on
on_few a n p [] = omega arith
on_few a n p (l ∷ ls) = go (is_page a (page_after p (says l))) (on_few a (n + 1) (page_after p (says l)) ls)
  where
    go : (t : Bool) → length (lines_on a (n + 1) (page_after p (says l)) ls) ≤ length ls
        → length (cond t (numbered (n + 1) (says l) ∷ lines_on a (n + 1) (page_after p (says l)) ls) (lines_on a (n + 1) (page_after p (says l)) ls)) ≤ suc (length ls)
    go true h = omega arith
    go false h = omega arith

stated_few : (ls : List Numbered) → length (stated ls) ≤ length ls
stated_few [] = omega arith
stated_few (l ∷ ls) = go l.what (stated_few ls)
  where
    go : (s : Said) → length (stated ls) ≤ length ls → length (with_stated s (stated ls)) ≤ suc (length ls)
    go nothing h = omega arith
    go (opens a) h = omega arith
    go (states t) h = omega arith
    go unreadable h = omega arith

judged_few : (f : Option PageCause) (ts : List Triple) → length (triples (judged_by f ts)) ≤ length ts
judged_few None ts = omega arith
judged_few (Some c) ts = omega arith

-- the opening is one of the lines
page_few : (ls : List Numbered) (n : ℕ) → length ls ≤ suc n → length (triples (page_of ls)) ≤ n
page_few [] n h = omega arith
page_few (l ∷ ls) n h = omega (arith, judged_few (first_fault ls) (stated ls), stated_few ls)

pub page_at_few : (file a : List ℕ) → length file ≤ 65536 → length (triples (page_at file a)) ≤ 65535
page_at_few file a h = page_few (lines_on a 0 None (lines file)) 65535 (omega (arith, lines_few file, on_few a 0 None (lines file)))

-- ---- lawful terms

said_lawful : (o : Option (List ℕ)) (s : Option Triple) (ts : List Triple) → ((t : Triple) → s ≡ Some t → lawful_triple t ≡ true) → lawful_triples ts ≡ true → lawful_triples (with_stated (or_opens o (or_states s)) ts) ≡ true
said_lawful None None ts f h = h
said_lawful None (Some t) ts f h = and_from _ _ (f t refl) h
said_lawful (Some a) s ts f h = h

says_lawful : (l : List ℕ) (ts : List Triple) → lawful_triples ts ≡ true → lawful_triples (with_stated (says l) ts) ≡ true
unfolding says
says_lawful [] ts h = h
says_lawful (b ∷ bs) ts h = said_lawful (opening (b ∷ bs)) (statement (b ∷ bs)) ts (statement_lawful (b ∷ bs)) h

on_lawful : (a : List ℕ) (n : ℕ) (p : Option (List ℕ)) (ls : List (List ℕ)) → lawful_triples (stated (lines_on a n p ls)) ≡ true
unfolding lines_on
on_lawful a n p [] = refl
on_lawful a n p (l ∷ ls) = go (is_page a (page_after p (says l))) (on_lawful a (n + 1) (page_after p (says l)) ls)
  where
    go : (t : Bool) → lawful_triples (stated (lines_on a (n + 1) (page_after p (says l)) ls)) ≡ true
        → lawful_triples (stated (cond t (numbered (n + 1) (says l) ∷ lines_on a (n + 1) (page_after p (says l)) ls) (lines_on a (n + 1) (page_after p (says l)) ls))) ≡ true
    go true h = says_lawful l (stated (lines_on a (n + 1) (page_after p (says l)) ls)) h
    go false h = h

judged_lawful : (f : Option PageCause) (ts : List Triple) → lawful_triples ts ≡ true → lawful_triples (triples (judged_by f ts)) ≡ true
judged_lawful None ts h = h
judged_lawful (Some c) ts h = refl

-- the page's first line states nothing, or its triple is left out
rest_lawful : (l : Numbered) (ls : List Numbered) → lawful_triples (stated (l ∷ ls)) ≡ true → lawful_triples (stated ls) ≡ true
rest_lawful l ls = go l.what
  where
    go : (s : Said) → lawful_triples (with_stated s (stated ls)) ≡ true → lawful_triples (stated ls) ≡ true
    go nothing h = h
    go (opens a) h = h
    go (states t) h = (and_parts _ _ h).1
    go unreadable h = h

page_lawful : (ls : List Numbered) → lawful_triples (stated ls) ≡ true → lawful_triples (triples (page_of ls)) ≡ true
page_lawful [] h = refl
page_lawful (l ∷ ls) h = judged_lawful (first_fault ls) (stated ls) (rest_lawful l ls h)

pub pages_lawful : (file iri : List ℕ) → Lawful iri (web_meaning file iri)
pages_lawful file iri = within (nat_le (length file) 65536) refl
  where
    nothing_held : Lawful {C = PageCause} iri absent
    nothing_held = record { no_iri = λ f. refl; few = omega arith; terms = refl }

    led : (t : Bool) → is_iri iri ≡ t → length file ≤ 65536 → Lawful iri (cond t (page_at file (address iri)) absent)
    led true e short = record {
      no_iri = λ f. absurd cc;
      few = page_at_few file (address iri) short;
      terms = page_lawful (lines_on (address iri) 0 None (lines file)) (on_lawful (address iri) 0 None (lines file));
    }
    led false e short = nothing_held

    within : (t : Bool) → nat_le (length file) 65536 ≡ t → Lawful iri (cond t (page_meaning file iri) absent)
    within true e = led (is_iri iri) refl (leb-true (length file) 65536 e)
    within false e = nothing_held
