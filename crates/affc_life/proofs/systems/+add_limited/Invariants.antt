use Rattle.std.proofs.Common.{length}
use Rattle.affc_life.proofs.systems.+add_limited.Given as goal

abbrev pub decreases-add_limited : goal.decreases-add_limited
decreases-add_limited l = length l.rows.now
