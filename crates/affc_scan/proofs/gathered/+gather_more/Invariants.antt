use Rattle.std.proofs.Common.{length}
use Rattle.affc_scan.proofs.gathered.+gather_more.Given as goal

abbrev pub decreases-gather_more : goal.decreases-gather_more
decreases-gather_more l = length l.statements.now
