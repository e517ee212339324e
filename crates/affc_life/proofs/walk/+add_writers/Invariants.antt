use Rattle.std.proofs.Common.{length}
use Rattle.affc_life.proofs.walk.+add_writers.Given as goal

abbrev pub decreases-add_writers : goal.decreases-add_writers
decreases-add_writers l = length l.writers.now
