use Rattle.std.proofs.Common.{length}
use Rattle.affc_sched.proofs.systems.+add_equal.Given as goal

abbrev pub decreases-add_equal : goal.decreases-add_equal
decreases-add_equal l = length l.fs.now
