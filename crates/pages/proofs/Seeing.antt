-- What the page of an address holds, from the parts of one way through the file.
use Rattle.std.proofs.Common.{◌≡◌, ℕ, List, Some, None, Option, ap, ◌∙◌}
use Rattle.web.specs.Meaning.{broken}
use Rattle.pages.specs.declared.cause.Fault.TheVariants.{OpenedAgain}
use Rattle.pages.specs.declared.cause.PageCause.{PageCause}
use Rattle.lines.specs.Lines.{lines}
use Rattle.lines.specs.declared.saying.Stated.{Stated}
use Rattle.pages.specs.Pages.{lines_on, stated, first_fault, judged_by, page_of, page_at, cause}
use Rattle.pages.specs.Steps.{Opened, Passed}
use Rattle.pages.proofs.Walking.{fault_append}

module _ {file a : List ℕ} {n : ℕ} {bytes : List ℕ} (o : Opened a 0 file n bytes) where
  pub see_broken : (c : PageCause) → first_fault (lines_on a n (Some a) (lines bytes)) ≡ Some c → page_at file a ≡ broken c
  see_broken c e = ap page_of o.goes ∙ ap (λ f. judged_by f (stated (lines_on a n (Some a) (lines bytes)))) e

  module _ {place count : ℕ} {kept : Option Stated} {m : ℕ} {rest : List ℕ} (p : Passed a n bytes place count kept None m rest) where
    pub see_again : {k : ℕ} {behind : List ℕ} → Opened a m rest k behind → page_at file a ≡ broken (cause OpenedAgain k)
    see_again {k} q =
        see_broken (cause OpenedAgain k)
        (ap first_fault p.goes ∙ fault_append p.page (lines_on a m None (lines rest)) p.good ∙ ap first_fault q.goes)
