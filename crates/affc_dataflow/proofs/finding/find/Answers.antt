use Rattle.std.proofs.Common.{map, ap}
use Rattle.affc_sched.proofs.Lists.{all_there}
use Rattle.affc_quast.specs.Seen.{seen}
use Rattle.affc_dataflow.proofs.FindLemmas.{all_added, all_named, all_within, all_inputs}
use Rattle.affc_dataflow.proofs.finding.find.Goals as goal

pub add_entries-requires-clause-entries : goal.add_entries-requires-clause-entries
add_entries-requires-clause-entries c = all_there c.args.nest.now c.as_slice.result.now c.as_slice.ensures

pub returns-clause-sources : goal.returns-clause-sources
returns-clause-sources c =
    let n = c.args.nest.now in
    let new = map seen c.add_entries.new.out in
    all_named n new (all_added n c.as_slice.result.now (map seen c.new-trees.result) new c.as_slice.ensures (ap (map seen) c.new-trees.ensures) c.in_ok-add_entries.ensures.trees)

pub returns-clause-within : goal.returns-clause-within
returns-clause-within c =
    let n = c.args.nest.now in
    let new = map seen c.add_entries.new.out in
    all_within n new (all_added n c.as_slice.result.now (map seen c.new-trees.result) new c.as_slice.ensures (ap (map seen) c.new-trees.ensures) c.in_ok-add_entries.ensures.trees)

pub returns-clause-inputs : goal.returns-clause-inputs
returns-clause-inputs c =
    let n = c.args.nest.now in
    let new = map seen c.add_entries.new.out in
    all_inputs n new (all_added n c.as_slice.result.now (map seen c.new-trees.result) new c.as_slice.ensures (ap (map seen) c.new-trees.ensures) c.in_ok-add_entries.ensures.trees)
