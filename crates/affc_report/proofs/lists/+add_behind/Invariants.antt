use Rattle.std.proofs.Common.{length}
use Rattle.affc_report.proofs.lists.+add_behind.Given as goal

abbrev pub decreases-add_behind : goal.decreases-add_behind
decreases-add_behind g l = length l.items.now
