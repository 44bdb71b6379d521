-- The turns of the scanning loops.
use Rattle.std.proofs.Common.{◌≡◌, ℕ, zero, suc, ◌+◌, ◌≤◌, Bool, true, false, ◌⊎◌, List, [], ◌∷◌, ◌++◌, length, Some, None, Option, sym, refl, ap, ◌∙◌, subst, inl, inr, append_assoc, arith}
use Rattle.web.specs.Meaning.{Triple, listed}
use Rattle.lines.specs.Lines.{lines}
use Rattle.lines.specs.Readings.{Said, nothing, opens, states, unreadable, says, opening}
use Rattle.pages.specs.declared.cause.Fault.TheVariants.{Unreadable, OpenedAgain}
use Rattle.pages.specs.declared.cause.PageCause.{PageCause}
use Rattle.pages.specs.Pages.{Numbered, numbered, is_page, lines_on, stated, with_stated, first_fault, fault_of, or_else, cause}
use Rattle.lines.specs.Steps.{NextLine, Taken, triple_of}
use Rattle.lines.specs.declared.cursor.Line.{Line}
use Rattle.lines.specs.declared.cursor.Lines.{Lines}
use Rattle.lines.specs.declared.saying.Stated.{Stated}
use Rattle.pages.specs.Steps.{Opened, Passed}
use Rattle.lines.proofs.Cutting.{lines_nil}
use Rattle.std.proofs.lemmas.List.{append-nil, length-append}
use Rattle.std.proofs.lemmas.Bool.{cases_eq}
use Rattle.std.proofs.lemmas.Bool.Decides.{not_from_Decides}
use Rattle.std.proofs.lemmas.Slice.Eq.{bytes_eq-Decides}
use Rattle.std.specs.Bool.{then_some}
use Rattle.std.specs.Str.{bytes_eq}
use Rattle.std.specs.Iterator.{ActsAs, ChecksAny, Yields}
use Rattle.std.specs.List.{FoldsTo}
use Rattle.std.specs.Option.{option_map, MatchOption}
use denote.Param.Members.{Mut, Called}
use Rattle.lines.proofs.Sayings.{says_opening}
use Rattle.pages.proofs.Placing.{on_nil, off_pass, on_other, on_opens, on_stays, Stays}

-- ---- to the next opening of a page

-- from n0 lines before some bytes on the lines of the page are those from n lines before others on
record Same (a : List ℕ) (n0 : ℕ) (bytes0 : List ℕ) (n : ℕ) (bytes : List ℕ) : Type 0 where
  pub on : lines_on a n0 None (lines bytes0) ≡ lines_on a n None (lines bytes)
  pub bound : n + length bytes ≤ n0 + length bytes0

same_start : (a : List ℕ) (n : ℕ) (bytes : List ℕ) → Same a n bytes n bytes
same_start a n bytes = record { on = refl; bound = omega arith }

module _ {a : List ℕ} {n0 : ℕ} {bytes0 : List ℕ} {n : ℕ} {bytes line : List ℕ} {k m : ℕ} {rest : List ℕ} (s : Same a n0 bytes0 n bytes) (t : Taken n bytes line k m rest) where
  bounded : m + length rest ≤ n0 + length bytes0
  bounded = omega (arith, s.bound, t.next, t.less)

  find_here : is_page a (opening line) ≡ true → Opened a n0 bytes0 m rest
  find_here e = go (opening line) refl e
    where
      go : (o : Option (List ℕ)) → opening line ≡ o → is_page a o ≡ true → Opened a n0 bytes0 m rest
      go None o e = absurd cc
      go (Some b) o e = record {
        goes = s.on ∙ ap (lines_on a n None) t.first ∙ on_opens a n None line b (lines rest) (says_opening line b o) ((bytes_eq-Decides b a).0 e) ∙ ap (λ i. numbered i (opens a) ∷ lines_on a i (Some a) (lines rest)) (sym t.next);
        bound = bounded;
      }

  find_on : is_page a (opening line) ≡ false → Same a n0 bytes0 m rest
  find_on e = record { on = s.on ∙ ap (lines_on a n None) t.first ∙ go (opening line) refl e ∙ ap (λ i. lines_on a i None (lines rest)) (sym t.next); bound = bounded }
    where
      go : (o : Option (List ℕ)) → opening line ≡ o → is_page a o ≡ false → lines_on a n None (line ∷ lines rest) ≡ lines_on a (n + 1) None (lines rest)
      go None o e = off_pass a n line (lines rest) o
      go (Some b) o e = on_other a n None line b (lines rest) (says_opening line b o) (not_from_Decides (bytes_eq b a) (bytes_eq-Decides b a) e)

find_none : {a : List ℕ} {n0 : ℕ} {bytes0 : List ℕ} {n : ℕ} {bytes : List ℕ} → Same a n0 bytes0 n bytes → bytes ≡ [] → lines_on a n0 None (lines bytes0) ≡ []
find_none {a} {n = n} s e = s.on ∙ ap (λ b. lines_on a n None (lines b)) e ∙ ap (lines_on a n None) lines_nil ∙ on_nil a n None

-- calls of a closure that tells of each line whether it opens the page a
module _ {F : Type 0} (g : Mut F (Line × Unit {0}) Bool) (f : F) (a : List ℕ) (tells : ActsAs g f (λ (l : Line). is_page a (opening l.bytes.now))) (from : Lines) where
  abbrev Passing : Lines → Type 0
  Passing s = Same a from.passed from.rest.now s.passed s.rest.now

  -- lines that do not are passed, and the closure stays as it was
  find_past : (xs : List Line) (s t : Lines) (p h : F) → p ≡ f → Passing s → Yields NextLine s xs t → FoldsTo (λ p x q. Called g p (x, tt) false q) p xs h → Passing t × (h ≡ f)
  find_past [] s t p h e m y k = (subst Passing y m, sym k ∙ e)
  find_past (x ∷ xs) s t p h e m (j, y, ys) (q, k, ks) =
      let r = tells x false q (subst (λ i. Called g i (x, tt) false q) e k) in
      find_past xs j t q h r.0 (find_on m y (sym r.1)) ys ks

  abbrev Finds : Option Lines → Type 0
  Finds o = MatchOption o (lines_on a from.passed None (lines from.rest.now) ≡ []) (λ l. Opened a from.passed from.rest.now l.passed l.rest.now)

  pub find_first : (r : Bool) (u : Lines) → ChecksAny NextLine g from f r u → Finds (then_some r u)
  find_first r u (xs, None, h, (t, y, e), k, q) =
      let m = find_past xs from t f h refl (same_start a from.passed from.rest.now) y k in
      subst (λ v. Finds (then_some v u)) (sym q) (find_none m.0 e.0)
  find_first r u (xs, Some l, h, (t, y, e), k, (q, (z, w))) =
      let m = find_past xs from t f h refl (same_start a from.passed from.rest.now) y k in
      subst (λ v. Finds (then_some v u)) (sym q) (find_here m.0 e (sym (tells l true z (subst (λ i. Called g i (l, tt) true z) m.1 w)).1))

-- ---- along a page

pub fault_append : (p q : List Numbered) → first_fault p ≡ None → first_fault (p ++ q) ≡ first_fault q
fault_append [] q e = refl
fault_append (x ∷ p) q e = go (fault_of x.number x.what) e (fault_append p q)
  where
    go : (o : Option PageCause) → or_else o (first_fault p) ≡ None → (first_fault p ≡ None → first_fault (p ++ q) ≡ first_fault q) → or_else o (first_fault (p ++ q)) ≡ first_fault q
    go None e h = h e
    go (Some c) e h = absurd cc

pub stated_append : (p q : List Numbered) → stated (p ++ q) ≡ stated p ++ stated q
stated_append [] q = refl
stated_append (x ∷ p) q = go x.what (stated_append p q)
  where
    go : (s : Said) → stated (p ++ q) ≡ stated p ++ stated q → with_stated s (stated (p ++ q)) ≡ with_stated s (stated p) ++ stated q
    go nothing h = h
    go (opens a) h = h
    go (states t) h = ap (λ ts. t ∷ ts) h
    go unreadable h = h

-- a further triple stands behind the others
listed_other : (place : ℕ) (ts : List Triple) (t : Triple) → (place ≡ length ts → ⊥) → listed place (ts ++ t ∷ []) ≡ listed place ts
listed_other zero [] t f = absurd (f refl)
listed_other (suc place) [] t f = refl
listed_other zero (x ∷ ts) t f = refl
listed_other (suc place) (x ∷ ts) t f = listed_other place ts t (λ e. f (ap suc e))

listed_last : (ts : List Triple) (t : Triple) → listed (length ts) (ts ++ t ∷ []) ≡ Some t
listed_last [] t = refl
listed_last (x ∷ ts) t = listed_last ts t

module _ {a : List ℕ} {n0 : ℕ} {bytes0 : List ℕ} {place count : ℕ} {kept : Option Stated} {n : ℕ} {bytes line : List ℕ} {k m : ℕ} {rest : List ℕ}
    (p : Passed a n0 bytes0 place count kept (Some a) n bytes) (t : Taken n bytes line k m rest) where
  -- the next line is on the page
  line_on : (s : Said) → says line ≡ s → Stays s → lines_on a n0 (Some a) (lines bytes0) ≡ p.page ++ (numbered m s ∷ lines_on a m (Some a) (lines rest))
  line_on s e h = p.goes ∙ ap (λ q. p.page ++ q) (ap (lines_on a n (Some a)) t.first ∙ on_stays a n line s (lines rest) e h ∙ ap (λ i. numbered i s ∷ lines_on a i (Some a) (lines rest)) (sym t.next))

  further : (s : Said) → says line ≡ s → Stays s → lines_on a n0 (Some a) (lines bytes0) ≡ (p.page ++ numbered m s ∷ []) ++ lines_on a m (Some a) (lines rest)
  further s e h = line_on s e h ∙ sym (append_assoc p.page (numbered m s ∷ []) (lines_on a m (Some a) (lines rest)))

  pub pass_nothing : says line ≡ nothing → Passed a n0 bytes0 place count kept (Some a) m rest
  pass_nothing e =
      let same : stated (p.page ++ numbered m nothing ∷ []) ≡ stated p.page = stated_append p.page (numbered m nothing ∷ []) ∙ append-nil (stated p.page) in
      record {
        page = p.page ++ numbered m nothing ∷ [];
        goes = further nothing e tt;
        good = fault_append p.page (numbered m nothing ∷ []) p.good;
        counted = p.counted ∙ ap length (sym same);
        keeps = p.keeps ∙ ap (listed place) (sym same);
        few = omega (arith, p.few, t.next);
        bound = omega (arith, p.bound, t.next, t.less);
      }

  pub pass_states : {x : Stated} {next : Option Stated} → says line ≡ states (triple_of x) → (count ≡ place → next ≡ Some x) → ((count ≡ place → ⊥) → next ≡ kept) → Passed a n0 bytes0 place (count + 1) next (Some a) m rest
  pass_states {x} {next} e here there =
      let y : Triple = triple_of x in
      let more : stated (p.page ++ numbered m (states y) ∷ []) ≡ stated p.page ++ y ∷ [] = stated_append p.page (numbered m (states y) ∷ []) in
      record {
        page = p.page ++ numbered m (states y) ∷ [];
        goes = further (states y) e tt;
        good = fault_append p.page (numbered m (states y) ∷ []) p.good;
        counted = omega (arith, p.counted, ap length more, length-append (stated p.page) (y ∷ []));
        keeps = keep (cases_eq count place) ∙ ap (listed place) (sym more);
        few = omega (arith, p.few, t.next);
        bound = omega (arith, p.bound, t.next, t.less);
      }
    where
      keep : (count ≡ place) ⊎ (count ≡ place → ⊥) → option_map triple_of next ≡ listed place (stated p.page ++ triple_of x ∷ [])
      keep (inl h) = ap (option_map triple_of) (here h) ∙ sym (ap (λ i. listed i (stated p.page ++ triple_of x ∷ [])) (sym h ∙ p.counted) ∙ listed_last (stated p.page) (triple_of x))
      keep (inr f) = ap (option_map triple_of) (there f) ∙ p.keeps ∙ sym (listed_other place (stated p.page) (triple_of x) (λ e. f (p.counted ∙ sym e)))

  pub pass_other : {b : List ℕ} → says line ≡ opens b → bytes_eq b a ≡ false → Passed a n0 bytes0 place count kept None m rest
  pass_other {b} e f = record {
    page = p.page;
    goes = p.goes ∙ ap (λ q. p.page ++ q) (ap (lines_on a n (Some a)) t.first ∙ on_other a n (Some a) line b (lines rest) e (not_from_Decides (bytes_eq b a) (bytes_eq-Decides b a) f) ∙ ap (λ i. lines_on a i None (lines rest)) (sym t.next));
    good = p.good;
    counted = p.counted;
    keeps = p.keeps;
    few = omega (arith, p.few, t.next);
    bound = omega (arith, p.bound, t.next, t.less);
  }

  pub pass_again : {b : List ℕ} → says line ≡ opens b → bytes_eq b a ≡ true → first_fault (lines_on a n0 (Some a) (lines bytes0)) ≡ Some (cause OpenedAgain k)
  pass_again {b} e f =
      ap first_fault (p.goes ∙ ap (λ q. p.page ++ q) (ap (lines_on a n (Some a)) t.first ∙ on_opens a n (Some a) line b (lines rest) e ((bytes_eq-Decides b a).0 f)))
      ∙ fault_append p.page (numbered (n + 1) (opens a) ∷ lines_on a (n + 1) (Some a) (lines rest)) p.good ∙ ap (λ i. Some (cause OpenedAgain i)) (sym t.count)

  pub pass_bad : says line ≡ unreadable → first_fault (lines_on a n0 (Some a) (lines bytes0)) ≡ Some (cause Unreadable k)
  pass_bad e =
      ap first_fault (line_on unreadable e tt) ∙ fault_append p.page (numbered m unreadable ∷ lines_on a m (Some a) (lines rest)) p.good ∙ ap (λ i. Some (cause Unreadable i)) (t.next ∙ sym t.count)

pub pass_end : {a : List ℕ} {n0 : ℕ} {bytes0 : List ℕ} {place count : ℕ} {kept : Option Stated} {n : ℕ} {bytes : List ℕ}
    → Passed a n0 bytes0 place count kept (Some a) n bytes → bytes ≡ [] → Passed a n0 bytes0 place count kept None n bytes
pass_end {a} {n = n} {bytes = bytes} p e = record {
  page = p.page;
  goes = p.goes ∙ ap (λ q. p.page ++ q) (none (Some a) ∙ sym (none None));
  good = p.good;
  counted = p.counted;
  keeps = p.keeps;
  few = p.few;
  bound = p.bound;
}
  where
    none : (o : Option (List ℕ)) → lines_on a n o (lines bytes) ≡ []
    none o = ap (λ b. lines_on a n o (lines b)) e ∙ ap (lines_on a n o) lines_nil ∙ on_nil a n o

pub pass_start : {a : List ℕ} {n : ℕ} {bytes : List ℕ} {place : ℕ} → Passed a n bytes place 0 None (Some a) n bytes
pass_start = record {
  page = [];
  goes = refl;
  good = refl;
  counted = refl;
  keeps = refl;
  few = omega arith;
  bound = omega arith;
}
