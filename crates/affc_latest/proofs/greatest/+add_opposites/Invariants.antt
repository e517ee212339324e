use Rattle.std.proofs.Common.{length}
use Rattle.affc_latest.proofs.greatest.+add_opposites.Given as goal

abbrev pub decreases-add_opposites : goal.decreases-add_opposites
decreases-add_opposites l = length l.point.now
