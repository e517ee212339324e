use Rattle.affc_quast.specs.Seen.{trees_of}
use Rattle.affc_driver.proofs.Folded.{analysed}
use Rattle.affc_driver.proofs.temporaries.folds_of.Goals as goal

pub fold_all-requires : goal.fold_all-requires
fold_all-requires g c = record {
  analysed = analysed c.args.compiled.now.program.now c.args.compiled.now.nest.now c.args.compiled.now.plan.now (trees_of c.args.flow.now) c.requires.compiled c.requires.named c.requires.limits;
}
