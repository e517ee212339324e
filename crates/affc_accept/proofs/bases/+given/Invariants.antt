use Rattle.std.proofs.Common.{length}
use Rattle.affc_accept.proofs.bases.+given.Given as goal

abbrev pub decreases-given : goal.decreases-given
decreases-given l = length l.bases.now
