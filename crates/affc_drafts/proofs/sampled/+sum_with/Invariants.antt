use Rattle.std.proofs.Common.{length}
use Rattle.affc_drafts.proofs.sampled.+sum_with.Given as goal

abbrev pub decreases-sum_with : goal.decreases-sum_with
decreases-sum_with l = length l.coefs.now
