use Rattle.affc_trace.proofs.laws.target_is_reordered.Goals as goal
use Rattle.affc_trace.proofs.Contents.{target_is_reordered_law}

pub returns : goal.returns
returns c = record { law = target_is_reordered_law }
