-- Which lines are on a page, one line on.
use Rattle.std.proofs.Common.{◌≡◌, ℕ, ◌+◌, true, false, cond, List, [], ◌∷◌, Some, None, Option, sym, refl, ap, ◌∙◌}
use Rattle.std.proofs.lemmas.Bool.{false_from_ne_true}
use Rattle.std.proofs.lemmas.Slice.Eq.{bytes_eq-Decides}
use Rattle.std.specs.Str.{bytes_eq}
use Rattle.web.specs.Meaning.{Triple}
use Rattle.lines.specs.Readings.{Said, nothing, opens, states, unreadable, says, opening, statement, or_opens, or_states}
use Rattle.pages.specs.Pages.{Numbered, numbered, page_after, is_page, lines_on}
use Rattle.lines.proofs.Sayings.{says_nil, says_cons}

-- a line that says s is next
abbrev pub next : List ℕ → ℕ → Option (List ℕ) → Said → List (List ℕ) → List Numbered
next a n p s ls = cond (is_page a (page_after p s)) (numbered (n + 1) s ∷ lines_on a (n + 1) (page_after p s) ls) (lines_on a (n + 1) (page_after p s) ls)

pub on_nil : (a : List ℕ) (n : ℕ) (p : Option (List ℕ)) → lines_on a n p [] ≡ []
unfolding lines_on
on_nil a n p = refl

pub on_next : (a : List ℕ) (n : ℕ) (p : Option (List ℕ)) (l : List ℕ) (ls : List (List ℕ)) → lines_on a n p (l ∷ ls) ≡ next a n p (says l) ls
unfolding lines_on
on_next a n p l ls = refl

pub on_says : (a : List ℕ) (n : ℕ) (p : Option (List ℕ)) (l : List ℕ) (s : Said) (ls : List (List ℕ)) → says l ≡ s → lines_on a n p (l ∷ ls) ≡ next a n p s ls
on_says a n p l s ls e = on_next a n p l ls ∙ ap (λ s. next a n p s ls) e

pub same_itself : (a : List ℕ) → bytes_eq a a ≡ true
same_itself a = (bytes_eq-Decides a a).1 refl

pub same_apart : (a b : List ℕ) → (b ≡ a → ⊥) → bytes_eq b a ≡ false
same_apart a b f = false_from_ne_true (bytes_eq b a) (λ e. f ((bytes_eq-Decides b a).0 e))

-- while another page is open it does not matter which
pub on_any : (a : List ℕ) (n : ℕ) (p : Option (List ℕ)) (ls : List (List ℕ)) → is_page a p ≡ false → lines_on a n p ls ≡ lines_on a n None ls
on_any a n p [] e = on_nil a n p ∙ sym (on_nil a n None)
on_any a n p (l ∷ ls) e = on_next a n p l ls ∙ go (says l) (on_any a (n + 1) p ls e) ∙ sym (on_next a n None l ls)
  where
    go : (s : Said) → lines_on a (n + 1) p ls ≡ lines_on a (n + 1) None ls → next a n p s ls ≡ next a n None s ls
    go nothing h = ap (λ t. cond t (numbered (n + 1) nothing ∷ lines_on a (n + 1) p ls) (lines_on a (n + 1) p ls)) e ∙ h
    go (opens b) h = refl
    go (states t) h = ap (λ b. cond b (numbered (n + 1) (states t) ∷ lines_on a (n + 1) p ls) (lines_on a (n + 1) p ls)) e ∙ h
    go unreadable h = ap (λ t. cond t (numbered (n + 1) unreadable ∷ lines_on a (n + 1) p ls) (lines_on a (n + 1) p ls)) e ∙ h

-- ---- while another page is open

-- a line that opens nothing is passed
pub off_pass : (a : List ℕ) (n : ℕ) (l : List ℕ) (ls : List (List ℕ)) → opening l ≡ None → lines_on a n None (l ∷ ls) ≡ lines_on a (n + 1) None ls
off_pass a n [] ls e = on_says a n None [] nothing ls says_nil
off_pass a n (b ∷ bs) ls e = on_says a n None (b ∷ bs) (or_states (statement (b ∷ bs))) ls (says_cons b bs ∙ ap (λ o. or_opens o (or_states (statement (b ∷ bs)))) e) ∙ go (statement (b ∷ bs))
  where
    go : (o : Option Triple) → next a n None (or_states o) ls ≡ lines_on a (n + 1) None ls
    go None = refl
    go (Some t) = refl

-- so is an opening of another page, also where the page itself was open
pub on_other : (a : List ℕ) (n : ℕ) (p : Option (List ℕ)) (l b : List ℕ) (ls : List (List ℕ)) → says l ≡ opens b → (b ≡ a → ⊥) → lines_on a n p (l ∷ ls) ≡ lines_on a (n + 1) None ls
on_other a n p l b ls e f =
    on_says a n p l (opens b) ls e ∙ ap (λ t. cond t (numbered (n + 1) (opens b) ∷ lines_on a (n + 1) (Some b) ls) (lines_on a (n + 1) (Some b) ls)) (same_apart a b f)
    ∙ on_any a (n + 1) (Some b) ls (same_apart a b f)

-- an opening of the page is on it
pub on_opens : (a : List ℕ) (n : ℕ) (p : Option (List ℕ)) (l b : List ℕ) (ls : List (List ℕ)) → says l ≡ opens b → b ≡ a → lines_on a n p (l ∷ ls) ≡ numbered (n + 1) (opens a) ∷ lines_on a (n + 1) (Some a) ls
on_opens a n p l b ls e f =
    on_says a n p l (opens a) ls (e ∙ ap opens f) ∙ ap (λ t. cond t (numbered (n + 1) (opens a) ∷ lines_on a (n + 1) (Some a) ls) (lines_on a (n + 1) (Some a) ls)) (same_itself a)

-- ---- while it is open

abbrev pub Stays : Said → Type 0
Stays nothing = Unit {0}
Stays (opens b) = ⊥
Stays (states t) = Unit {0}
Stays unreadable = Unit {0}

pub on_stays : (a : List ℕ) (n : ℕ) (l : List ℕ) (s : Said) (ls : List (List ℕ)) → says l ≡ s → Stays s → lines_on a n (Some a) (l ∷ ls) ≡ numbered (n + 1) s ∷ lines_on a (n + 1) (Some a) ls
on_stays a n l s ls e h = on_says a n (Some a) l s ls e ∙ go s h
  where
    here : (s : Said) → cond (bytes_eq a a) (numbered (n + 1) s ∷ lines_on a (n + 1) (Some a) ls) (lines_on a (n + 1) (Some a) ls) ≡ numbered (n + 1) s ∷ lines_on a (n + 1) (Some a) ls
    here s = ap (λ t. cond t (numbered (n + 1) s ∷ lines_on a (n + 1) (Some a) ls) (lines_on a (n + 1) (Some a) ls)) (same_itself a)

    go : (s : Said) → Stays s → next a n (Some a) s ls ≡ numbered (n + 1) s ∷ lines_on a (n + 1) (Some a) ls
    go nothing h = here nothing
    go (opens b) h = absurd h
    go (states t) h = here (states t)
    go unreadable h = here unreadable
