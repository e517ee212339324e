use Rattle.affc_ast.proofs.ExampleProofs as x
use Rattle.affc_ast.proofs.examples.runs.Goals as goal

pub returns : goal.returns
returns c = record { copy_loop_copies = x.copy_loop_copies; outputs_are_out = x.outputs_are_out; copy_loop_trace = x.copy_loop_trace; copy_loop_events = x.copy_loop_events; compound_adds = x.compound_adds; compound_subtracts = x.compound_subtracts; values_are_read_from_the_left = x.values_are_read_from_the_left; conditions_choose = x.conditions_choose; others_run_where_not = x.others_run_where_not; loops_nest = x.loops_nest; two_statements_take_turns = x.two_statements_take_turns; two_statements_run = x.two_statements_run; compound_loads_first = x.compound_loads_first; locals_see_those_before = x.locals_see_those_before }
