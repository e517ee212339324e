use Rattle.std.proofs.Common.{ap}
use Rattle.affc_sched.proofs.Lists.{all_there}
use Rattle.affc_quast.specs.SeenLeaves.{named_seen}
use Rattle.affc_life.specs.Drafts.{instance_named}
use Rattle.affc_life.proofs.walk.add_leaf.Goals as goal

pub add_writers-requires-clause-named : goal.add_writers-requires-clause-named
add_writers-requires-clause-named c = c.requires.path.named (instance_named c.in-Some.named) (ap named_seen c.in-Some.is)

pub add_writers-requires-clause-writers : goal.add_writers-requires-clause-writers
add_writers-requires-clause-writers c = all_there c.args.asked.now.nest.now c.as_slice-writers.result.now c.as_slice-writers.ensures
