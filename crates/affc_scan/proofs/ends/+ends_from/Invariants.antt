use Rattle.std.proofs.Common.{length}
use Rattle.affc_scan.proofs.ends.+ends_from.Given as goal

abbrev pub decreases-ends_from : goal.decreases-ends_from
decreases-ends_from l = length l.bounds.now
