use Rattle.affc_quast.specs.Seen.{trees_of}
use Rattle.affc_check.specs.list.Walks.{clash_systems, fold_shown}
use Rattle.affc_check.proofs.list.FoldLemmas.{rows_asked, fold_within}
use Rattle.affc_check.proofs.list.all.add_part.Goals as goal

pub add_fold-requires-clause-asked : goal.add_fold-requires-clause-asked
add_fold-requires-clause-asked c =
    rows_asked c.args.nest.now c.args.schedule.now (trees_of c.args.flow.now) c.args.fold.now (clash_systems c.args.systems.now) c.requires.asked c.requires.fold c.requires.said.systems

pub returns-in-Ok-clause-within : goal.returns-in-Ok-clause-within
returns-in-Ok-clause-within c =
    fold_within c.args.nest.now c.args.schedule.now (trees_of c.args.flow.now) c.args.fold.now (fold_shown c.args.fold.now (clash_systems c.args.systems.now)) c.requires.said c.requires.fits c.in-Ok.ensures.ok.within
