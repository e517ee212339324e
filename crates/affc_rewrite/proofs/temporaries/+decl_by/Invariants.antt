use Rattle.std.proofs.Common.{length}
use Rattle.affc_rewrite.proofs.temporaries.+decl_by.Given as goal

abbrev pub decreases-decl_by : goal.decreases-decl_by
decreases-decl_by l = length l.folds.now
