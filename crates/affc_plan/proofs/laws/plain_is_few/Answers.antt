use Rattle.affc_plan.proofs.FewLaws as x
use Rattle.affc_plan.proofs.laws.plain_is_few.Goals as goal

pub returns : goal.returns
returns c = x.plain_is_few
