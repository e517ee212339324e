use Rattle.std.proofs.Common.{length, ap, ◌∙◌}
use Rattle.affc_trace.specs.Dataflow.{LivePair}
use Rattle.affc_quast.specs.Seen.{trees_of}
use Rattle.affc_folds.proofs.FoldLemmas.{fold_made}
use Rattle.affc_folds.proofs.tries.fold_along.Goals as goal

pub returns-clause-fold : goal.returns-clause-fold
returns-clause-fold c =
    fold_made c.args.temporary.now.asked.program.now c.args.temporary.now.asked.nest.now (trees_of c.args.temporary.now.asked.flow.now) c.args.temporary.now.asked.schedule.now c.requires.temporary.analysed c.args.temporary.now.array.0 c.args.temporary.now.info.now c.requires.temporary.there (LivePair c.args.temporary.now.asked.program.now c.args.temporary.now.asked.schedule.now) c.args.temporary.now.systems.now c.requires.temporary.live
    _ (ap length c.in_ok-basis.ensures.rows ∙ c.requires.rows) c.in_ok-moduli.ensures.limits c.requires.temporary.temporary c.in_ok-moduli.ensures.obeys c.in_ok-moduli.ensures.marks
