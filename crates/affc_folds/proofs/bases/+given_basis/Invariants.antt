use Rattle.std.proofs.Common.{length}
use Rattle.affc_folds.proofs.bases.+given_basis.Given as goal

abbrev pub decreases-given_basis : goal.decreases-given_basis
decreases-given_basis l = length l.bases.now
