use Rattle.affc_domain.proofs.ExampleProofs as x
use Rattle.affc_domain.proofs.examples.ranges.Goals as goal

pub returns : goal.returns
returns c = record { ranges_of_numbers = x.ranges_of_numbers; range_of_a_loop = x.range_of_a_loop; ranges_of_the_triangle = x.ranges_of_the_triangle; near_ends = x.near_ends; ranges_that_pass = x.ranges_that_pass; one_turn_is_entered = x.one_turn_is_entered; within_ranges = x.within_ranges; first_wide = x.first_wide }
