use Rattle.std.proofs.Common.{length}
use Rattle.affc_accept.proofs.layout.+add_temporaries.Given as goal

abbrev pub decreases-add_temporaries : goal.decreases-add_temporaries
decreases-add_temporaries l = length l.arrays.now
