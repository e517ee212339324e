use Rattle.affc_trace.proofs.laws.compiles_source.Goals as goal
use Rattle.affc_trace.proofs.Composed.{compiles_source}

pub returns : goal.returns
returns c = record { law = compiles_source }
