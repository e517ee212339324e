use Rattle.affc_ast.proofs.ExampleProofs as x
use Rattle.affc_ast.proofs.examples.stops.Goals as goal

pub returns : goal.returns
returns c = record { loads_stay_inside = x.loads_stay_inside; stores_stay_inside = x.stores_stay_inside; subscripts_start_at_zero = x.subscripts_start_at_zero; accesses_are_counted = x.accesses_are_counted; statements_are_counted = x.statements_are_counted; loads_find_values = x.loads_find_values; own_element_comes_first = x.own_element_comes_first; products_overflow = x.products_overflow; products_fit = x.products_fit; context_has_nodes = x.context_has_nodes; temporaries_have_nodes = x.temporaries_have_nodes; values_have_nodes = x.values_have_nodes; blocks_have_nodes = x.blocks_have_nodes; locals_have_nodes = x.locals_have_nodes; extents_are_at_least_one = x.extents_are_at_least_one; first_extent_ends_the_reading = x.first_extent_ends_the_reading; extents_are_read_in_order = x.extents_are_read_in_order; steps_overflow = x.steps_overflow }
