use Rattle.affc_split.specs.Budgets.{IsLater}
use Rattle.affc_certify.proofs.folds.moduli_shown.Given as goal

abbrev pub invariant-loop-modulus : goal.invariant-loop-modulus
invariant-loop-modulus l = IsLater l.fn.budget l.budget
