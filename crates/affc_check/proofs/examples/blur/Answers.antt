use Rattle.affc_check.proofs.ExampleProofs as x
use Rattle.affc_check.proofs.examples.blur.Goals as goal

pub returns : goal.returns
returns c = record { counts = x.counts; context_is_first = x.context_is_first; extents_are_next = x.extents_are_next; bounds_are_next = x.bounds_are_next; trees_are_next = x.trees_are_next; schedule_is_next = x.schedule_is_next; none_is_valid = x.none_is_valid }
