use Rattle.affc_trace.proofs.laws.values_by_instance.Goals as goal
use Rattle.affc_trace.proofs.Contents.{values_by_instance}

pub returns : goal.returns
returns c = record { law = values_by_instance }
