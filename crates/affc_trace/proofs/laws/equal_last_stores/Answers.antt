use Rattle.affc_trace.proofs.laws.equal_last_stores.Goals as goal
use Rattle.affc_trace.proofs.Composed.{equal_last_stores_law}

pub returns : goal.returns
returns c = record { law = equal_last_stores_law }
