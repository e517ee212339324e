use Rattle.std.proofs.Common.{length}
use Rattle.affc_latest.proofs.later.+meets_one.Given as goal

abbrev pub decreases-meets_one : goal.decreases-meets_one
decreases-meets_one l = length l.orders.now
