use Rattle.affc_bounds.proofs.ExampleProofs as example
use Rattle.affc_bounds.proofs.examples.extents.Goals as goal

pub returns : goal.returns
returns c = record { arrays = example.lesser_array_first; parameters = example.lesser_parameters_first; context = example.only_in_the_context }
