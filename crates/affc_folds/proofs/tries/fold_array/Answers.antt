use Rattle.affc_quast.specs.Seen.{trees_of}
use Rattle.affc_folds.proofs.FoldLemmas.{few_dimensions}
use Rattle.affc_folds.proofs.tries.fold_array.Goals as goal

pub dimensions_of-requires : goal.dimensions_of-requires
dimensions_of-requires g c = few_dimensions c.args.asked.now.program.now c.args.asked.now.nest.now (trees_of c.args.asked.now.flow.now) c.args.asked.now.schedule.now c.requires.analysed c.args.array.0 c.args.info.now c.requires.there
