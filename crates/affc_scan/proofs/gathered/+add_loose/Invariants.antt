use Rattle.std.proofs.Common.{length}
use Rattle.affc_scan.proofs.gathered.+add_loose.Given as goal

abbrev pub decreases-add_loose : goal.decreases-add_loose
decreases-add_loose l = length l.bounds
