use Rattle.affc_rewrite.proofs.ExampleProofs as x
use Rattle.affc_rewrite.proofs.examples.whole_arrays.Goals as goal

pub returns : goal.returns
returns c = record { unit_rows = x.unit_rows; one_element = x.one_element_whole }
