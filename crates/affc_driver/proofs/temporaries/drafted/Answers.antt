use Rattle.affc_quast.specs.Seen.{trees_of}
use Rattle.affc_driver.proofs.Drafted.{trees_asked}
use Rattle.affc_driver.proofs.Refused.{asked}
use Rattle.affc_driver.proofs.temporaries.drafted.Goals as goal

pub make_draft-requires-clause-asked : goal.make_draft-requires-clause-asked
make_draft-requires-clause-asked c = asked c.args.compiled.now.program.now c.args.compiled.now.nest.now c.args.compiled.now.plan.now c.requires.compiled

pub make_draft-requires-clause-trees : goal.make_draft-requires-clause-trees
make_draft-requires-clause-trees c = trees_asked c.args.compiled.now.nest.now (trees_of c.args.flow.now) c.requires.limits
