-- The two orders of the question about feeders.
use Rattle.std.proofs.Common.{◌≡◌, Bool, false, ◌||◌, refl, arith}
use Rattle.tokens.specs.Lexed.{same_bytes}
use Rattle.semantics.specs.Alike.{and_order}
use Rattle.semantics.specs.Named.{Names}
use Rattle.semantics.specs.Webs.{by_bytes}
use Rattle.semantics.proofs.Bytes.{by_bytes_exact}
use Rattle.semantics.proofs.Proved.{order_and_grouping_by_name}
use Rattle.samples.specs.Feeders.{capacitor, feeder, substitutes, fitting, first, second, first_names, second_names, graph, TwoOrdersOfOneQuestion, OneListByName}

first_names_lem : Names first first_names
first_names_lem = record { distinct = (refl, (refl, tt)); these = λ n. these (same_bytes n capacitor) (same_bytes n feeder) }
  where
    these : (c f : Bool) → c || (f || false) ≡ c || (f || (c || false))
    these c f = grind arith

second_names_lem : Names second second_names
second_names_lem = record { distinct = (refl, (refl, tt)); these = λ n. these (same_bytes n capacitor) (same_bytes n feeder) }
  where
    these : (c f : Bool) → f || (c || false) ≡ f || (c || (c || false))
    these c f = grind arith

pub two_orders_of_one_question : TwoOrdersOfOneQuestion
two_orders_of_one_question = (and_order substitutes fitting, first_names_lem, second_names_lem)

pub one_list_by_name : OneListByName
one_list_by_name k l σ =
    order_and_grouping_by_name by_bytes by_bytes_exact graph k l first second (and_order substitutes fitting) first_names second_names first_names_lem second_names_lem σ
