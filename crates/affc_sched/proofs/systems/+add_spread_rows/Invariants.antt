use Rattle.std.proofs.Common.{length}
use Rattle.affc_sched.proofs.systems.+add_spread_rows.Given as goal

abbrev pub decreases-add_spread_rows : goal.decreases-add_spread_rows
decreases-add_spread_rows l = length l.rows.now
