use Rattle.std.proofs.Common.{length}
use Rattle.affc_split.proofs.maximum.gap.+add_behind.Given as goal

abbrev pub decreases-add_behind : goal.decreases-add_behind
decreases-add_behind l = length l.rows.now
