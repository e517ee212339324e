use Rattle.affc_safe.proofs.ExampleProofs as x
use Rattle.affc_safe.proofs.examples.extents.Goals as goal

pub returns : goal.returns
returns c = record { of_parameters = x.empty_output_is_not; untouched = x.untouched_array_counts; later = x.later_extent_counts }
