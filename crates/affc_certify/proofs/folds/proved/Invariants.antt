use Rattle.affc_quast.specs.Seen.{trees_of}
use Rattle.affc_certify.proofs.folds.proved.Given as goal

abbrev pub ghost-proofs_of_fold : goal.ghost-proofs_of_fold
ghost-proofs_of_fold a = record { schedule = a.asked.schedule.now; trees = trees_of a.asked.flow.now }
