use Rattle.std.proofs.Common.{length}
use Rattle.affc_certify.proofs.folds.+may_be_moduli.Given as goal

abbrev pub decreases-may_be_moduli : goal.decreases-may_be_moduli
decreases-may_be_moduli l = length l.moduli.now
