use Rattle.affc_split.specs.Budgets.{IsLater}
use Rattle.affc_dataflow.proofs.samples.first_parting.Given as goal

abbrev pub invariant-loop-later : goal.invariant-loop-later
invariant-loop-later l = IsLater l.fn.budget l.budget
