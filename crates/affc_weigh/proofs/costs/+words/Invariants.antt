use Rattle.std.proofs.Common.{length}
use Rattle.affc_weigh.proofs.costs.+words.Given as goal

abbrev pub decreases-words : goal.decreases-words
decreases-words l = length l.moduli.now
