use Rattle.affc_trace.proofs.Found.{live_pairs_are_found}
use Rattle.affc_trace.proofs.laws.live_pairs_are_found.Goals as goal

pub returns : goal.returns
returns c = record { law = live_pairs_are_found }
