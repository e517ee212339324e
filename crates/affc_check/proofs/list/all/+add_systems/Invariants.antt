use Rattle.std.proofs.Common.{length}
use Rattle.affc_check.proofs.list.all.+add_systems.Given as goal

abbrev pub decreases-add_systems : goal.decreases-add_systems
decreases-add_systems l = length l.folds.now
