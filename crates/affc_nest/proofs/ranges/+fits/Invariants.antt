use Rattle.std.proofs.Common.{length}
use Rattle.affc_nest.proofs.ranges.+fits.Given as goal

abbrev pub decreases-fits : goal.decreases-fits
decreases-fits l = length l.frames.now
