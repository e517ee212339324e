use Rattle.std.proofs.Common.{length}
use Rattle.affc_latest.proofs.greatest.+add_coefs.Given as goal

abbrev pub decreases-add_coefs : goal.decreases-add_coefs
decreases-add_coefs l = length l.coefs.now
