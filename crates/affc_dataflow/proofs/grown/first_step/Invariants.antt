use Rattle.affc_split.specs.Budgets.{IsLater}
use Rattle.affc_dataflow.proofs.grown.first_step.Given as goal

abbrev pub invariant-loop-place : goal.invariant-loop-place
invariant-loop-place l = IsLater l.fn.budget l.budget
