use Rattle.affc_split.specs.Budgets.{IsLater}
use Rattle.affc_moduli.proofs.forms.first_suited.Given as goal

abbrev pub invariant-loop-proposal : goal.invariant-loop-proposal
invariant-loop-proposal l = IsLater l.fn.budget l.budget
