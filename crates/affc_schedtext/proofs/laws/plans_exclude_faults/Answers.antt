use Rattle.affc_schedtext.proofs.Excludes.{excludes}
use Rattle.affc_schedtext.proofs.laws.plans_exclude_faults.Goals as goal

pub returns : goal.returns
returns c = excludes
