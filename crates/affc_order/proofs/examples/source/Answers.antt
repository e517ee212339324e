use Rattle.affc_order.proofs.ExampleProofs as example
use Rattle.affc_order.proofs.examples.source.Goals as goal

pub returns : goal.returns
returns c = record { first_in_the_loop = example.first_in_the_loop; second_in_the_loop = example.second_in_the_loop; two_of_one_statement = example.two_of_one_statement; no_loop_is_shared = example.no_loop_is_shared }
