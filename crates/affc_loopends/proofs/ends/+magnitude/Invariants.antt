use Rattle.std.proofs.Common.{length}
use Rattle.affc_loopends.proofs.ends.+magnitude.Given as goal

abbrev pub decreases-magnitude : goal.decreases-magnitude
decreases-magnitude l = length l.coefs.now
