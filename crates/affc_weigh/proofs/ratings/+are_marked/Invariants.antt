use Rattle.std.proofs.Common.{length}
use Rattle.affc_weigh.proofs.ratings.+are_marked.Given as goal

abbrev pub decreases-are_marked : goal.decreases-are_marked
decreases-are_marked l = length l.moduli.now
