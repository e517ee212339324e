use Rattle.affc_trace.proofs.laws.runs_as_source.Goals as goal
use Rattle.affc_trace.proofs.Composed.{runs_as_source}

pub returns : goal.returns
returns c = record { law = runs_as_source }
