use Rattle.std.proofs.Common.{length}
use Rattle.affc_interp.proofs.context.+meets.Given as goal

abbrev pub decreases-meets : goal.decreases-meets
decreases-meets l = length l.conds.now
