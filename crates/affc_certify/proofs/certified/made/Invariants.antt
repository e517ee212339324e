use Rattle.affc_split.specs.Budgets.{IsLater}
use Rattle.affc_certify.specs.Making.{AreTaken}
use Rattle.affc_certify.proofs.certified.made.Given as goal

abbrev pub invariant-loop-number : goal.invariant-loop-number
invariant-loop-number l = record {
  taken : AreTaken l.fn.folds l.budget l.left l.made.kept;
  later : IsLater l.fn.budget l.budget;
}
