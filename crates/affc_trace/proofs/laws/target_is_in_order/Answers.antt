use Rattle.affc_trace.proofs.laws.target_is_in_order.Goals as goal
use Rattle.affc_trace.proofs.Ordered.{target_is_in_order}

pub returns : goal.returns
returns c = record { law = target_is_in_order }
