use Rattle.std.proofs.Common.{length}
use Rattle.affc_weigh.proofs.costs.+powers.Given as goal

abbrev pub decreases-powers : goal.decreases-powers
decreases-powers l = length l.moduli.now
