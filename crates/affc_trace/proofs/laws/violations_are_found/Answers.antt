use Rattle.affc_trace.proofs.Found.{violations_are_found}
use Rattle.affc_trace.proofs.laws.violations_are_found.Goals as goal

pub returns : goal.returns
returns c = record { law = violations_are_found }
