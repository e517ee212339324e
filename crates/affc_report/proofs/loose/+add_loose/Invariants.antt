use Rattle.std.proofs.Common.{length}
use Rattle.affc_report.proofs.loose.+add_loose.Given as goal

abbrev pub decreases-add_loose : goal.decreases-add_loose
decreases-add_loose l = length l.loose.now
