use Rattle.std.proofs.Common.{length}
use Rattle.affc_report.proofs.folds.+add_rivals.Given as goal

abbrev pub decreases-add_rivals : goal.decreases-add_rivals
decreases-add_rivals l = length l.prices.now
