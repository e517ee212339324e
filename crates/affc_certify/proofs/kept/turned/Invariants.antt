use Rattle.std.proofs.Common.{length}
use Rattle.affc_certify.specs.Making.{AreTurned}
use Rattle.affc_certify.proofs.kept.turned.Given as goal

abbrev pub invariant-loop-fold : goal.invariant-loop-fold
invariant-loop-fold l = AreTurned l.fn.folds l.folds l.out

abbrev pub decreases-loop-fold : goal.decreases-loop-fold
decreases-loop-fold l = length l.folds
