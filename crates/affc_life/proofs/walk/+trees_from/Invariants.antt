use Rattle.std.proofs.Common.{length}
use Rattle.affc_life.proofs.walk.+trees_from.Given as goal

abbrev pub decreases-trees_from : goal.decreases-trees_from
decreases-trees_from l = length l.entries.now
