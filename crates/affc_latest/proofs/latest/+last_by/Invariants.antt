use Rattle.std.proofs.Common.{length}
use Rattle.affc_latest.proofs.latest.+last_by.Given as goal

abbrev pub decreases-last_by : goal.decreases-last_by
decreases-last_by l = length l.orders.now
