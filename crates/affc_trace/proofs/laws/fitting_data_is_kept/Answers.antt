use Rattle.affc_trace.proofs.laws.fitting_data_is_kept.Goals as goal
use Rattle.affc_trace.proofs.Composed.{fitting_data_is_kept}

pub returns : goal.returns
returns c = record { law = fitting_data_is_kept }
