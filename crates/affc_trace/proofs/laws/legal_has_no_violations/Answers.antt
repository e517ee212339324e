use Rattle.affc_trace.proofs.Found.{legal_has_no_violations}
use Rattle.affc_trace.proofs.laws.legal_has_no_violations.Goals as goal

pub returns : goal.returns
returns c = record { law = legal_has_no_violations }
