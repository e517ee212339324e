use Rattle.affc_trace.specs.Dataflow.{LivePair}
use Rattle.affc_quast.specs.Seen.{trees_of}
use Rattle.affc_life.proofs.FoundLemmas.{found_trees_keep_limits}
use Rattle.affc_driver.proofs.Folded.{decided}
use Rattle.affc_driver.proofs.Kept.{still_folds}
use Rattle.affc_driver.proofs.Refused.{asked}
use Rattle.affc_driver.proofs.temporaries.certified_folds.Goals as goal

pub certify-requires-clause-asked : goal.certify-requires-clause-asked
certify-requires-clause-asked g c = asked c.args.compiled.now.program.now c.args.compiled.now.nest.now c.args.compiled.now.plan.now c.requires.compiled

pub certify-requires-clause-trees : goal.certify-requires-clause-trees
certify-requires-clause-trees g c = found_trees_keep_limits c.args.compiled.now.nest.now (trees_of c.in_ok-flow.flow) c.in_ok-flow.ensures.limits

pub returns-in-Ok-clause-decided : goal.returns-in-Ok-clause-decided
returns-in-Ok-clause-decided g c =
    let A = g.F.Cost.answers c.args.cost.now.cost in
    let are =
    still_folds A c.args.compiled.now.program.now (LivePair c.args.compiled.now.program.now c.args.compiled.now.plan.now.schedule) c.args.compiled.now.plan.now.folds c.folds_of.new.budget c.certify.new.budget c.certify.ensures.later c.in_ok-folds.field-0.folds c.in-Ok.field-0.folds c.in_ok-folds.field-0.choices c.in_ok-folds.ensures.folds
    c.in-Ok.ensures.left in
    decided A c.args.compiled.now.program.now c.args.compiled.now.plan.now c.certify.new.budget (trees_of c.in_ok-flow.flow) c.in-Ok.field-0.folds c.in_ok-folds.field-0.choices c.requires.compiled.within c.in_ok-flow.ensures.named c.in_ok-flow.ensures.legal are

pub trees_in_order-requires : goal.trees_in_order-requires
trees_in_order-requires g c = record { compiled = c.requires.compiled }
