use Rattle.std.proofs.Common.{◌+◌, length}
use Rattle.affc_life.proofs.SoughtLemmas.{steps}
use Rattle.affc_life.proofs.product.+seek.Given as goal

abbrev pub decreases-seek : goal.decreases-seek
decreases-seek l = steps l.factors.now

abbrev pub decreases-seek_among : goal.decreases-seek_among
decreases-seek_among l = length l.alternatives.now + steps l.factors.now
