use Rattle.affc_dataflow.proofs.FindLemmas.{few_accesses}
use Rattle.affc_dataflow.proofs.PartLemmas.{few_from}
use Rattle.affc_dataflow.proofs.finding.add_entry.Goals as goal

pub add_loads-requires-clause-few : goal.add_loads-requires-clause-few
add_loads-requires-clause-few c =
    let e = c.args.entry.now in
    few_from c.as_slice.result.now e.accesses c.as_slice.ensures (few_accesses c.args.nest.now c.requires.nested e c.requires.entry)
