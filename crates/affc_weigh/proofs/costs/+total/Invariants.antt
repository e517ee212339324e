use Rattle.std.proofs.Common.{length}
use Rattle.affc_weigh.proofs.costs.+total.Given as goal

abbrev pub decreases-total : goal.decreases-total
decreases-total l = length l.moduli.now
