use Rattle.std.proofs.Common.{length}
use Rattle.affc_legal.proofs.settling.+settle_systems.Given as goal

abbrev pub decreases-settle_systems : goal.decreases-settle_systems
decreases-settle_systems l = length l.systems.now
