use Rattle.affc_schedtext.proofs.Agree.{plans_order, plans_folds}
use Rattle.affc_schedtext.proofs.laws.plans_agree.Goals as goal

pub returns : goal.returns
returns c = record { order = plans_order; folds = plans_folds }
