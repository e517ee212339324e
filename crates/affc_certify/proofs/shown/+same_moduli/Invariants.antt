use Rattle.std.proofs.Common.{length}
use Rattle.affc_certify.proofs.shown.+same_moduli.Given as goal

abbrev pub decreases-same_moduli : goal.decreases-same_moduli
decreases-same_moduli l = length l.moduli.now
