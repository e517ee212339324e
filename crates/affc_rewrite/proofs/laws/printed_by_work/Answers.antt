use Rattle.affc_rewrite.proofs.Works.{printed_by_work}
use Rattle.affc_rewrite.proofs.laws.printed_by_work.Goals as goal

pub returns : goal.returns
returns c = record { law = printed_by_work }
