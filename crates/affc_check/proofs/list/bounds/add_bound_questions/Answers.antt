use Rattle.affc_check.proofs.list.ListLemmas.{each_there}
use Rattle.affc_check.proofs.list.bounds.add_bound_questions.Goals as goal

pub add_entries-requires-clause-entries : goal.add_entries-requires-clause-entries
add_entries-requires-clause-entries c = each_there c.as_slice.result.now c.args.nest.now.entries c.as_slice.ensures
