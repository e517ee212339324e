use Rattle.affc_trace.proofs.laws.keeps_sources.Goals as goal
use Rattle.affc_trace.proofs.Composed.{keeps_sources_law}

pub returns : goal.returns
returns c = record { law = keeps_sources_law }
