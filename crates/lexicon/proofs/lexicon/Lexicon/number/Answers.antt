use Rattle.std.proofs.Common.{◌≡◌, true, false, rules, tests, arith}
use Rattle.std.proofs.lemmas.Iterator.{first_from_Range}
use Rattle.lexicon.specs.Numbering.{term, term_at, is_term}
use Rattle.lexicon.specs.Held.{held}
use Rattle.lexicon.proofs.Numbers.{number_found}
use Rattle.lexicon.proofs.lexicon.Lexicon.number.Goals as goal

pub returns : goal.returns
returns c =
    let ts = held c.args.self.now in
    let t = term c.args.kind c.args.bytes.now in
    number_found ts t c.find.result _ (omega (arith, c.count.ensures))
    (first_from_Range _ c.find.new.self _ c.find.result (λ k. is_term (term_at ts k) t ≡ true) (λ k. is_term (term_at ts k) t ≡ false) c.find.ensures.ran (λ k q h. search (rules, tests)) (λ k q h. search (rules, tests)))
