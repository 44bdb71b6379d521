use Rattle.store.proofs.Keeping.{record_grows, triples_grow, numbers_stay, unfit_alone, sizes_add_up, lists_stand, limits_hold}
use Rattle.store.proofs.laws.keeping_is_lawful.Goals as goal

pub returns : goal.returns
returns c = record { entry = record_grows; triples = triples_grow; numbers = numbers_stay; unfit = unfit_alone; sizes = sizes_add_up; lists = lists_stand; limits = limits_hold }
