use Rattle.affc_trace.proofs.Composed.{premises_compile}
use Rattle.affc_trace.proofs.laws.premises_compile.Goals as goal

pub returns : goal.returns
returns c = record { law = premises_compile }
