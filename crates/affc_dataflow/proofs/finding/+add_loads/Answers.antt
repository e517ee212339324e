use Rattle.std.proofs.Common.{◌-◌, length, take, drop}
use Rattle.affc_domain.proofs.Lists.{first_and_rest}
use Rattle.affc_dataflow.proofs.FindLemmas.{is_load}
use Rattle.affc_dataflow.proofs.PartLemmas.{not_empty}
use Rattle.affc_dataflow.proofs.finding.+add_loads.Goals as goal

pub tree_of-requires-clause-living : goal.tree_of-requires-clause-living
tree_of-requires-clause-living t c = λ alive.
    let xs = c.args.accesses.now in
    let rest = take (length xs - 1) (drop 1 xs) in
    is_load c.args.nest.now c.args.entry.now c.args.number xs rest c.access-item.result c.requires.nested c.requires.entry c.requires.accesses (first_and_rest xs c.access-item.result c.in-len1-up.len_at_least c.access-item.is)
    (not_empty c.is_empty.result (length rest) c.is_empty.ensures c.if-is_empty.false) alive
