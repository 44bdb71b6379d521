use Rattle.std.proofs.Common.{◌<◌, [], ◌∷◌, length, get_or, ap, arith, length-append}
use Rattle.room.specs.Items.{items}
use Rattle.shelf.specs.declared.items.Listed.{Listed}
use Rattle.lexicon.specs.Held.{held}
use Rattle.lexicon.proofs.Holding.{held_within}
use Rattle.store.proofs.Fetching.{no_triple, reads, gathered_next, gathered_all, gathering_none, stops_one, stops_two, stops_three, three_entered}
use Rattle.store.proofs.documents.Documents.gather.Goals as goal

pub returns-in_err-subject : goal.returns-in_err-subject
returns-in_err-subject g c =
    let ts = held c.args.self.now.terms in
    let ls = items c.args.self.now.triples in
    let i = c.loop-place.invariant in
    let k = c.loop-place.place in
    let lawful = (g.met.W.Web.lawful c.args.document.now.web.now c.args.document.now.iri.now).terms in
    λ xs e n.
    let lt : k < length xs = omega (arith, n, c.loop-place-test.true) in
    let x = get_or xs k no_triple in
    let r = reads _ xs k lawful e lt in
    gathering_none ts ls xs _ _ _ c.from_residual.ensures (stops_one ts ls xs k _ _ _ lt (i.0 xs e n) (c.in_err-subject.ensures x.subject r.subject r.short.subject))

pub returns-in_err-predicate : goal.returns-in_err-predicate
returns-in_err-predicate g c =
    let ts = held c.args.self.now.terms in
    let ls = items c.args.self.now.triples in
    let i = c.loop-place.invariant in
    let k = c.loop-place.place in
    let lawful = (g.met.W.Web.lawful c.args.document.now.web.now c.args.document.now.iri.now).terms in
    λ xs e n.
    let lt : k < length xs = omega (arith, n, c.loop-place-test.true) in
    let x = get_or xs k no_triple in
    let r = reads _ xs k lawful e lt in
    gathering_none ts ls xs _ _ _ c.from_residual-in_err-predicate.ensures (stops_two ts ls xs k _ _ _ _ c.in_ok-subject.subject lt (i.0 xs e n) (c.in_ok-subject.ensures x.subject r.subject r.short.subject) (c.in_err-predicate.ensures x.predicate r.predicate r.short.predicate))

pub returns-in_err-object : goal.returns-in_err-object
returns-in_err-object g c =
    let ts = held c.args.self.now.terms in
    let ls = items c.args.self.now.triples in
    let i = c.loop-place.invariant in
    let k = c.loop-place.place in
    let lawful = (g.met.W.Web.lawful c.args.document.now.web.now c.args.document.now.iri.now).terms in
    λ xs e n.
    let lt : k < length xs = omega (arith, n, c.loop-place-test.true) in
    let x = get_or xs k no_triple in
    let r = reads _ xs k lawful e lt in
    gathering_none ts ls xs _ _ _ c.from_residual-in_err-object.ensures (stops_three ts ls xs k _ _ _ _ _ c.in_ok-subject.subject c.in_ok-predicate.predicate lt (i.0 xs e n) (c.in_ok-subject.ensures x.subject r.subject r.short.subject) (c.in_ok-predicate.ensures x.predicate r.predicate r.short.predicate) (c.in_err-object.ensures x.object r.object r.short.object))

pub loop-place-preserved : goal.loop-place-preserved
loop-place-preserved g c =
    let ts = held c.args.self.now.terms in
    let ls = items c.args.self.now.triples in
    let i = c.loop-place.invariant in
    let k = c.loop-place.place in
    let lawful = (g.met.W.Web.lawful c.args.document.now.web.now c.args.document.now.iri.now).terms in
    let t : Listed = record { subject = c.in_ok-subject.subject; predicate = c.in_ok-predicate.predicate; object = c.in_ok-object.object } in
    let taken = c.push.ensures.taken (omega (arith, i.1, c.requires, c.loop-place-test.true)) in (
      (λ xs e n.
          let lt : k < length xs = omega (arith, n, c.loop-place-test.true) in
          let x = get_or xs k no_triple in
          let r = reads _ xs k lawful e lt in
          gathered_next ts ls xs k _ _ _ _ c.in_ok-subject.subject c.in_ok-predicate.predicate c.in_ok-object.object lt (i.0 xs e n)
          (three_entered _ _ _ _ x c.in_ok-subject.subject c.in_ok-predicate.predicate c.in_ok-object.object (c.in_ok-subject.ensures x.subject r.subject r.short.subject) (c.in_ok-predicate.ensures x.predicate r.predicate r.short.predicate) (c.in_ok-object.ensures x.object r.object r.short.object))
          taken),
      omega (arith, i.1, ap length taken, length-append (items c.loop-place.self.triples) (t ∷ [])),
    )

pub returns : goal.returns
returns g c =
    λ xs e n. gathered_all (held c.args.self.now.terms) (items c.args.self.now.triples) xs c.loop-place.place _ _ (omega (arith, n)) (held_within c.loop-place.self.terms) (c.loop-place.invariant.0 xs e n)
