use Rattle.affc_schedtext.proofs.Scheduled.{is_scheduled, is_limited}
use Rattle.affc_schedtext.proofs.laws.plans_are_scheduled.Goals as goal

pub returns : goal.returns
returns c = record { schedules = is_scheduled; limits = is_limited }
