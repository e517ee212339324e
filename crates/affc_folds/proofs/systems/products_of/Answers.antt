use Rattle.affc_quast.specs.Seen.{trees_of}
use Rattle.affc_folds.proofs.FoldLemmas.{trees_keep_limits, never_large}
use Rattle.affc_folds.proofs.systems.products_of.Goals as goal

pub clash_products-requires-clause-trees : goal.clash_products-requires-clause-trees
clash_products-requires-clause-trees c = trees_keep_limits c.args.asked.now.program.now c.args.asked.now.nest.now (trees_of c.args.asked.now.flow.now) c.args.asked.now.schedule.now c.requires.analysed

pub unreachable-requires : goal.unreachable-requires
unreachable-requires c =
    never_large c.args.asked.now.program.now c.args.asked.now.nest.now (trees_of c.args.asked.now.flow.now) c.args.asked.now.schedule.now c.requires.analysed c.args.array.0 (c.in-Err-Large.ensures.large c.in-Err-Large.field-0-is)
