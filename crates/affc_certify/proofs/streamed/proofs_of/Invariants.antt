use Rattle.affc_split.specs.Budgets.{IsLater}
use Rattle.affc_certify.proofs.streamed.proofs_of.Given as goal

abbrev pub invariant-loop-one : goal.invariant-loop-one
invariant-loop-one l = IsLater l.fn.budget l.budget
