use Rattle.std.proofs.Common.{length}
use Rattle.affc_scan.proofs.times.+wider.Given as goal

abbrev pub decreases-wider : goal.decreases-wider
decreases-wider l = length l.more.now
