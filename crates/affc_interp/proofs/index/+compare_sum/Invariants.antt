use Rattle.std.proofs.Common.{length}
use Rattle.affc_interp.proofs.index.+compare_sum.Given as goal

abbrev pub decreases-compare_sum : goal.decreases-compare_sum
decreases-compare_sum l = length l.conds.now
