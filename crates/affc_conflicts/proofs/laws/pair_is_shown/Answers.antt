use Rattle.affc_conflicts.proofs.Marks.{pair_is_shown}
use Rattle.affc_conflicts.proofs.laws.pair_is_shown.Goals as goal

pub returns : goal.returns
returns c = record { law = pair_is_shown }
