use Rattle.std.proofs.Common.{length}
use Rattle.affc_life.proofs.ranges.+add_quotients.Given as goal

abbrev pub decreases-add_quotients : goal.decreases-add_quotients
decreases-add_quotients l = length l.divisions.now
