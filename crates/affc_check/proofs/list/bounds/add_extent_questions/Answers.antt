use Rattle.affc_check.proofs.list.ListLemmas.{each_there}
use Rattle.affc_check.proofs.list.bounds.add_extent_questions.Goals as goal

pub add_arrays-requires-clause-arrays : goal.add_arrays-requires-clause-arrays
add_arrays-requires-clause-arrays c = each_there c.as_slice.result.now c.args.nest.now.arrays c.as_slice.ensures
