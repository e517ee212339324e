use Rattle.affc_loops.proofs.ExampleProofs.{quotients_of_rows, ends_of_copy, copies_between_ends, ends_of_triangle, steps_of_triangle, ends_of_more}
use Rattle.affc_loops.proofs.examples.ends.Goals as goal

pub returns : goal.returns
returns c = record { quotients_of_rows = quotients_of_rows; ends_of_copy = ends_of_copy; copies_between_ends = copies_between_ends; ends_of_triangle = ends_of_triangle; steps_of_triangle = steps_of_triangle; ends_of_more = ends_of_more }
