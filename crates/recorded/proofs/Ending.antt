-- Where nothing that is marked is missing or spoilt, all of it is answered.
use Rattle.std.proofs.Common.{◌≡◌, ℕ, Bool, true, false, not, ◌&&◌, List, get_or, is_some, Some, None, Option, sym, refl, ap, ◌∙◌}
use Rattle.terms.specs.declared.kind.Kind.{Kind}
use Rattle.terms.specs.declared.kind.Kind.TheVariants.{Iri, Literal}
use Rattle.terms.specs.Terms.{Term}
use Rattle.semantics.specs.Webs.{is_iri_kind}
use Rattle.semantics.proofs.Bytes.{eqb_tells}
use Rattle.semantics.proofs.Lists.{clash}
use Rattle.lexicon.specs.Numbering.{term_at}
use Rattle.shelf.specs.declared.items.Mark.{Mark}
use Rattle.shelf.specs.declared.items.Mark.TheVariants.{Found, Absent, Broken, Unfit}
use Rattle.shelf.specs.Contexts.{iri_among}
use Rattle.store.specs.declared.record.Entry.{Entry}
use Rattle.store.specs.State.{State}
use Rattle.store.specs.Looking.{address_in, address_of}
use Rattle.needs.specs.Needs.{first_where, is_of, wanted_at, spoilt, is_spoilt, missing}
use Rattle.needs.proofs.Firsts.{first-is, none_is}
use Rattle.recorded.specs.ByNumber.{named}
use Rattle.recorded.specs.ByTerm.{answers}
use Rattle.recorded.specs.Rounds.{CompleteIsAnswered, CompleteRoundsAnswer}
use Rattle.recorded.proofs.Arenas.{at_in, evaluated_questions_answer}
use Rattle.recorded.proofs.Naming.{at_named, kinds_are, iri_number}

-- a number of an IRI has an address
address_there : (t : Term) → is_iri_kind t.kind ≡ true → is_some (address_of (Some t)) ≡ true
address_there t e = go t.kind e
  where
    go : (k : Kind) → is_iri_kind k ≡ true → is_some (address_in k t.bytes) ≡ true
    go Iri e = refl
    go Literal e = clash e refl

third : (a b c : Bool) → a ≡ true → b ≡ true → a && b && c ≡ false → c ≡ false
third true true c e f g = g
third true false c e f g = clash f refl
third false b c e f g = clash e refl

second : (a b : Bool) → a ≡ true → a && b ≡ false → b ≡ false
second true b e f = f
second false b e f = clash e refl

some_of : (o : Option ℕ) → not (is_some o) ≡ false → (i : ℕ) × (o ≡ Some i)
some_of None e = clash refl e
some_of (Some i) e = (i, refl)

unspoilt : (m : Mark) → spoilt m ≡ false → answers m ≡ true
unspoilt (Found n) e = refl
unspoilt Absent e = refl
unspoilt (Broken code place) e = clash refl e
unspoilt Unfit e = clash refl e

-- what is wanted and not missing has an entry
there : (s : State) (marks : List Bool) (n : ℕ) → wanted_at marks n ≡ true → is_some (address_of (term_at s.terms n)) ≡ true → missing s marks n ≡ false
    → (i : ℕ) × (first_where (is_of n) s.entries ≡ Some i)
unfolding missing
there s marks n w a e =
    some_of (first_where (is_of n) s.entries)
    (third (wanted_at marks n) (is_some (address_of (term_at s.terms n))) (not (is_some (first_where (is_of n) s.entries))) w a e)

pub complete_is_answered : CompleteIsAnswered
complete_is_answered s h marks l c n iri marked =
    let d : Entry = record { iri = 0; mark = Absent } in
    let kind : is_iri_kind (named s.terms n).kind ≡ true = sym (ap (λ ks. iri_among ks n) l.kinds ∙ kinds_are s.terms n) ∙ iri in
    let address = ap (λ o. is_some (address_of o)) (at_named s.terms n (iri_number s.terms n kind)) ∙ address_there (named s.terms n) kind in
    let i = there s marks n marked address (c.0 n) in
    let first = first-is (is_of n) s.entries i.0 d i.1 in
    let e = get_or s.entries i.0 d in
    let same : e.iri ≡ n = eqb_tells e.iri n first.1 in
    let fine = none_is (is_spoilt marks) s.entries i.0 d c.1 first.0 in
    (e, at_in s.entries i.0 d first.0, same, unspoilt e.mark (second (wanted_at marks e.iri) (spoilt e.mark) (ap (wanted_at marks) same ∙ marked) fine))

pub complete_rounds_answer : {C : Type 0} → CompleteRoundsAnswer C
complete_rounds_answer mark meaning s h a r l n e k w marks table t c W u =
    evaluated_questions_answer mark meaning s h a r l n e k w marks table t (complete_is_answered s h marks l c) W u
