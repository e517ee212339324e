use Rattle.affc_ast.proofs.ExampleProofs as x
use Rattle.affc_ast.proofs.FitProofs as fit
use Rattle.affc_ast.proofs.examples.data.Goals as goal

pub returns : goal.returns
returns c = record { ranges_hold_their_ends = x.ranges_hold_their_ends; some_data_fit = fit.some_data_fit; values_keep_their_size = fit.values_keep_their_size; conditions_have_values = x.conditions_have_values; contexts_have_no_limit = x.contexts_have_no_limit }
