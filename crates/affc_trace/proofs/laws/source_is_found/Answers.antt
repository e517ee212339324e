use Rattle.affc_trace.proofs.Found.{source_is_found}
use Rattle.affc_trace.proofs.laws.source_is_found.Goals as goal

pub returns : goal.returns
returns c = record { law = source_is_found }
