use Rattle.affc_split.specs.Budgets.{IsLater}
use Rattle.affc_moduli.proofs.forms.all_proposed.Given as goal

abbrev pub invariant-loop-set : goal.invariant-loop-set
invariant-loop-set l = IsLater l.fn.budget l.budget
