use Rattle.lexicon.proofs.Numbers.{number_tells, term_numbered, numbers_apart, number_stays, number_entered, enter_twice, each_once}
use Rattle.lexicon.proofs.laws.numbers_are_lawful.Goals as goal

pub returns : goal.returns
returns c = record { tells = number_tells; numbered = term_numbered; apart = numbers_apart; stay = number_stays; entered = number_entered; twice = enter_twice; once = each_once }
