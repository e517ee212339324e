use Rattle.affc_schedtext.proofs.VerdictsSay.{verdicts_say}
use Rattle.affc_schedtext.proofs.laws.verdicts_say.Goals as goal

pub returns : goal.returns
returns c = verdicts_say
