use Rattle.std.proofs.Common.{length}
use Rattle.affc_sched.proofs.pairs.+add_accesses.Given as goal

abbrev pub decreases-add_accesses : goal.decreases-add_accesses
decreases-add_accesses l = length l.accesses.now
