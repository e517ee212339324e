use Rattle.affc_trace.proofs.laws.target_is_by_time.Goals as goal
use Rattle.affc_trace.proofs.Ordered.{target_is_by_time}

pub returns : goal.returns
returns c = record { law = target_is_by_time }
