use Rattle.affc_split.specs.Budgets.{IsLater}
use Rattle.affc_dataflow.proofs.samples.helped.Given as goal

abbrev pub invariant-loop-at : goal.invariant-loop-at
invariant-loop-at l = IsLater l.fn.budget l.budget
