use Rattle.std.proofs.Common.{length}
use Rattle.affc_eliminate.proofs.project.Ends.{IsRun}
use Rattle.affc_eliminate.proofs.project.elimination.eliminated.Given as goal

abbrev pub invariant-columns : goal.invariant-columns
invariant-columns g l = IsRun l.system.columns l.system.rows l.keep l.left.items l.work.made.items l.work.live.items

abbrev pub decreases-columns : goal.decreases-columns
decreases-columns g l = length l.left.items
