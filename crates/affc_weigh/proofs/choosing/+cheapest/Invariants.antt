use Rattle.std.proofs.Common.{length}
use Rattle.affc_weigh.proofs.choosing.+cheapest.Given as goal

abbrev pub decreases-cheapest : goal.decreases-cheapest
decreases-cheapest l = length l.found.now
