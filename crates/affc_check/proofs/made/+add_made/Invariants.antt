use Rattle.std.proofs.Common.{length}
use Rattle.affc_check.proofs.made.+add_made.Given as goal

abbrev pub decreases-add_made : goal.decreases-add_made
decreases-add_made l = length l.folds.now
