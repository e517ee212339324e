use Rattle.affc_quast.specs.Seen.{trees_of}
use Rattle.affc_driver.proofs.Folded.{written_each}
use Rattle.affc_driver.proofs.Refused.{refuses_each}
use Rattle.affc_driver.proofs.temporaries.trees_in_order.Goals as goal

pub returns-in-Err-clause-err : goal.returns-in-Err-clause-err
returns-in-Err-clause-err c = refuses_each c.args.compiled.now.program.now c.args.compiled.now.plan.now c.in-Err.refusal c.in-Err.ensures.err

pub in_order-requires-clause-written : goal.in_order-requires-clause-written
in_order-requires-clause-written c = written_each c.args.compiled.now.program.now (trees_of c.in-Ok.flow) c.requires.compiled.within c.in-Ok.ensures.named

pub trees_within-requires-clause-plain : goal.trees_within-requires-clause-plain
trees_within-requires-clause-plain c = c.requires.compiled.plain

pub trees_within-requires-clause-arrays : goal.trees_within-requires-clause-arrays
trees_within-requires-clause-arrays c = c.requires.compiled.arrays

pub trees_within-requires-clause-nest : goal.trees_within-requires-clause-nest
trees_within-requires-clause-nest c = c.requires.compiled.is

pub trees_within-requires-clause-within : goal.trees_within-requires-clause-within
trees_within-requires-clause-within c = c.requires.compiled.within
