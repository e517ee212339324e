use Rattle.std.proofs.Common.{length}
use Rattle.affc_weigh.proofs.ratings.+are_known.Given as goal

abbrev pub decreases-are_known : goal.decreases-are_known
decreases-are_known l = length l.moduli.now
