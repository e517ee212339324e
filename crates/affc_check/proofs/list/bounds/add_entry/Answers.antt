use Rattle.affc_check.proofs.list.ListLemmas.{each_there}
use Rattle.affc_check.proofs.list.bounds.add_entry.Goals as goal

pub add_accesses-requires-clause-accesses : goal.add_accesses-requires-clause-accesses
add_accesses-requires-clause-accesses c = each_there c.as_slice.result.now c.args.entry.now.accesses c.as_slice.ensures
