-- What the lines on a page say settles what it holds, but for the number of a line at fault.
use Rattle.std.proofs.Common.{◌≡◌, ℕ, Bool, true, false, cond, List, [], ◌∷◌, map, Some, None, Option, refl, ap, ap₂, ◌∙◌}
use Rattle.terms.specs.Lawful.{is_iri}
use Rattle.lines.specs.Lines.{lines}
use Rattle.lines.specs.Readings.{Said, nothing, opens, states, unreadable}
use Rattle.web.specs.Meaning.{Triple, absent}
use Rattle.pages.specs.declared.cause.Fault.{Fault}
use Rattle.pages.specs.declared.cause.PageCause.{PageCause}
use Rattle.pages.specs.Pages.{Numbered, address, fault_of, first_fault, judged_by, lines_on, or_else, page_of, stated, with_stated}
use Rattle.pages.specs.Laws.{SayingsDecide, unnumbered}

abbrev what_of : List Numbered → List Said
what_of ls = map (λ l. l.what) ls

abbrev fault_in : Option PageCause → Option Fault
fault_in None = None
fault_in (Some c) = Some c.fault

same_stated : (ls ms : List Numbered) → what_of ls ≡ what_of ms → stated ls ≡ stated ms
same_stated [] [] e = refl
same_stated [] (m ∷ ms) e = absurd cc
same_stated (l ∷ ls) [] e = absurd cc
same_stated (l ∷ ls) (m ∷ ms) e =
    let here : l.what ≡ m.what = cc in
    let behind : what_of ls ≡ what_of ms = cc in
    ap₂ with_stated here (same_stated ls ms behind)

-- a line at fault or none, and the faults behind it
fault_first : (s : Said) (n k : ℕ) (o q : Option PageCause) → fault_in o ≡ fault_in q → fault_in (or_else (fault_of n s) o) ≡ fault_in (or_else (fault_of k s) q)
fault_first nothing n k o q e = e
fault_first (opens a) n k o q e = refl
fault_first (states t) n k o q e = e
fault_first unreadable n k o q e = refl

same_fault : (ls ms : List Numbered) → what_of ls ≡ what_of ms → fault_in (first_fault ls) ≡ fault_in (first_fault ms)
same_fault [] [] e = refl
same_fault [] (m ∷ ms) e = absurd cc
same_fault (l ∷ ls) [] e = absurd cc
same_fault (l ∷ ls) (m ∷ ms) e =
    let here : l.what ≡ m.what = cc in
    let behind : what_of ls ≡ what_of ms = cc in
    ap (λ s. fault_in (or_else (fault_of l.number s) (first_fault ls))) here
    ∙ fault_first m.what l.number m.number (first_fault ls) (first_fault ms) (same_fault ls ms behind)

same_judged : (o q : Option PageCause) (ts us : List Triple) → fault_in o ≡ fault_in q → ts ≡ us → unnumbered (judged_by o ts) ≡ unnumbered (judged_by q us)
same_judged None None ts us e f = cc
same_judged None (Some d) ts us e f = absurd cc
same_judged (Some c) None ts us e f = absurd cc
same_judged (Some c) (Some d) ts us e f = cc

same_page : (ls ms : List Numbered) → what_of ls ≡ what_of ms → unnumbered (page_of ls) ≡ unnumbered (page_of ms)
same_page [] [] e = refl
same_page [] (m ∷ ms) e = absurd cc
same_page (l ∷ ls) [] e = absurd cc
same_page (l ∷ ls) (m ∷ ms) e =
    let behind : what_of ls ≡ what_of ms = cc in
    same_judged (first_fault ls) (first_fault ms) (stated ls) (stated ms) (same_fault ls ms behind) (same_stated ls ms behind)

pub sayings_decide : SayingsDecide
sayings_decide file other iri e = go (is_iri iri)
  where
    on : List ℕ → List Numbered
    on f = lines_on (address iri) 0 None (lines f)

    go : (t : Bool) → unnumbered (cond t (page_of (on file)) absent) ≡ unnumbered (cond t (page_of (on other)) absent)
    go true = same_page (on file) (on other) e
    go false = refl
