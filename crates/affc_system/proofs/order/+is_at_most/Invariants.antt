use Rattle.std.proofs.Common.{length}
use Rattle.affc_system.proofs.order.+is_at_most.Given as goal

abbrev pub decreases-is_at_most : goal.decreases-is_at_most
decreases-is_at_most l = length l.xs.now
