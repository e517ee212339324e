use Rattle.affc_interp.proofs.ExampleProofs as x
use Rattle.affc_interp.proofs.examples.texts.Goals as goal

pub returns : goal.returns
returns c = record { data_is_the_start = x.data_is_the_start; elements_are_counted = x.elements_are_counted; values_stand_in_order = x.values_stand_in_order; outputs_are_written = x.outputs_are_written; data_is_read = x.data_is_read; unmet_context_is_wrong = x.unmet_context_is_wrong }
