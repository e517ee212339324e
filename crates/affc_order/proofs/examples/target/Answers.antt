use Rattle.std.proofs.Common.{refl}
use Rattle.affc_order.proofs.ExampleProofs as example
use Rattle.affc_order.proofs.examples.target.Goals as goal

pub returns : goal.returns
returns c = record { times_are_compared = example.times_are_compared; turned_times_are_compared = example.turned_times_are_compared; parts_of_one_statement = (refl, refl); source_is_a_target = example.source_is_a_target; columns_between = example.columns_between }
