use Rattle.affc_ast.proofs.ExampleProofs as x
use Rattle.affc_ast.proofs.examples.numbers.Goals as goal

pub returns : goal.returns
returns c = record { quotients_round = x.quotients_round; remainders_start_at_zero = x.remainders_start_at_zero; least_and_greatest = x.least_and_greatest; divisors_are_at_least_one = x.divisors_are_at_least_one; numbers_have_their_ends = x.numbers_have_their_ends; negations_overflow = x.negations_overflow; values_compute = x.values_compute; values_wrap = x.values_wrap; relations_compare = x.relations_compare; first_false_ends_the_reading = x.first_false_ends_the_reading; first_true_ends_the_reading = x.first_true_ends_the_reading; remainders_are_tested = x.remainders_are_tested }
