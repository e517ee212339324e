use Rattle.affc_loops.proofs.ExampleProofs.{times_of_three, loops_of_three, loops_of_branches, loops_of_two, nothing_to_run, ties_in_order}
use Rattle.affc_loops.proofs.examples.programs.Goals as goal

pub returns : goal.returns
returns c = record { times_of_three = times_of_three; loops_of_three = loops_of_three; loops_of_branches = loops_of_branches; loops_of_two = loops_of_two; nothing_to_run = nothing_to_run; ties_in_order = ties_in_order }
