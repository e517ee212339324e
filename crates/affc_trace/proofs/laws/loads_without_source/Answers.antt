use Rattle.affc_trace.proofs.laws.loads_without_source.Goals as goal
use Rattle.affc_trace.proofs.Composed.{loads_without_source}

pub returns : goal.returns
returns c = record { law = loads_without_source }
