use Rattle.std.proofs.Common.{length}
use Rattle.affc_certify.proofs.shown.+rising_end.Given as goal

abbrev pub decreases-rising_end : goal.decreases-rising_end
decreases-rising_end l = length l.folds.now
