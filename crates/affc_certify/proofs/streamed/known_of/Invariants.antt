use Rattle.affc_split.specs.Budgets.{IsLater}
use Rattle.affc_certify.proofs.streamed.known_of.Given as goal

abbrev pub invariant-loop-number : goal.invariant-loop-number
invariant-loop-number l = IsLater l.fn.budget l.budget
