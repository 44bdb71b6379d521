use Rattle.std.proofs.Common.{◌≡◌, ℕ, List, Err, sym, refl, ap, ◌∙◌, subst, arith}
use Rattle.std.proofs.lemmas.Result.{err_from_is_err_and}
use Rattle.room.specs.Items.{items}
use Rattle.shelf.specs.declared.items.Noted.{Noted}
use Rattle.lexicon.specs.Numbering.{tell, term_at}
use Rattle.web.specs.Agreement.{tells_of}
use Rattle.web.specs.Meaning.{told}
use Rattle.store.specs.Places.{counts}
use Rattle.store.specs.Looking.{address_of}
use Rattle.store.specs.declared.refusals.Unlooked.TheVariants.{NoSuch}
use Rattle.store.specs.View.{view}
use Rattle.store.proofs.Recording.{view_count, Firsts, counts_behind, firsts_behind}
use Rattle.store.proofs.Fetching.{address_means}
use Rattle.store.proofs.Looked.{full_is, full_not, looked_full, looked_nowhere, looked_there, copied_some}
use Rattle.store.proofs.store.Store.look.Goals as goal

pub returns-then-is_full : goal.returns-then-is_full
returns-then-is_full g c =
    let s = c.args.self.now in
    let r = looked_full (tells_of g.W.Cause.Cause.mark g.W.Web.meaning c.args.web.now) c.args.iri (view s) (full_is (view s) (omega (arith, c.if-is_full.ensures, view_count s))) in
    record { answer = r.0; after = r.1; numbers = refl }

pub returns-in_err-address : goal.returns-in_err-address
returns-in_err-address g c =
    let s = c.args.self.now in
    let e = err_from_is_err_and c.from_residual.result c.from_residual.ensures.1 in
    let nowhere = ap (tell (λ a. a.items)) (sym c.in_err-address.ensures.ok_part) ∙ c.address.ensures in
    let r = looked_nowhere (tells_of g.W.Cause.Cause.mark g.W.Web.meaning c.args.web.now) c.args.iri (view s) (full_not (view s) (omega (arith, c.if-is_full.ensures, view_count s))) nowhere in
    let is : Err NoSuch ≡ c.from_residual.result = grind (arith, e.1, e.2, c.in_err-address.ensures.value, c.in_err-address.ensures.ok_part) in
    record { answer = sym is ∙ r.0; after = r.1; numbers = refl }

pub invariant_of-self : goal.invariant_of-self
invariant_of-self g c =
    let s = c.args.self.now in
    let n : Noted = record { iri = c.args.iri; mark = c.fetch-mark.result; first = c.len-first.result } in
    let e = c.push.ensures.taken c.if-is_full.ensures in
    record {
      firsts = subst Firsts (sym e) (firsts_behind (items s.noted) n s.firsts (c.len-first.ensures ∙ sym s.whole));
      whole = omega (arith, ap counts e, counts_behind (items s.noted) n, s.whole, c.fetch-mark.ensures.grows);
    }

pub returns : goal.returns
returns g c =
    let s = c.args.self.now in
    let w = c.args.web.now in
    let there = ap (tell (λ a. a.items)) (sym c.in_ok-address.ensures.ok_part) ∙ c.address.ensures in
    let x = copied_some (address_of (term_at (view s).terms c.args.iri)) _ there in
    let at = ap (λ (l : List ℕ). told g.W.Cause.Cause.mark (g.W.Web.meaning w l)) (c.as_slice.ensures.value ∙ x.2)
    ∙ ap (told g.W.Cause.Cause.mark) (address_means (g.W.Web.meaning w) (g.met.W.Web.lawful w) x.0) in
    let r = looked_there (tells_of g.W.Cause.Cause.mark g.W.Web.meaning w) c.args.iri (view s) x.0 _ (items s.noted) c.fetch-mark.result _ _ _ _ (full_not (view s) (omega (arith, c.if-is_full.ensures, view_count s))) x.1 at refl c.fetch-mark.ensures (c.push.ensures.taken c.if-is_full.ensures) in
    record { answer = r.0; after = r.1; numbers = refl }
