use Rattle.affc_ast.proofs.RuleProofs as x
use Rattle.affc_ast.proofs.examples.rules.Goals as goal

pub returns : goal.returns
returns c = record { left_sides_come_first = x.left_sides_come_first; left_loads_come_first = x.left_loads_come_first; lower_bounds_come_first = x.lower_bounds_come_first; left_subscripts_come_first = x.left_subscripts_come_first; subscripts_come_before_values = x.subscripts_come_before_values; values_come_before_stores = x.values_come_before_stores; unwritten_loads_are_counted = x.unwritten_loads_are_counted; subscripts_have_their_extents = x.subscripts_have_their_extents; last_subscripts_run_fastest = x.last_subscripts_run_fastest; values_are_stored = x.values_are_stored; each_form_has_its_nodes = x.each_form_has_its_nodes }
