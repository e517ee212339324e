use Rattle.affc_trace.proofs.laws.run_of_effects.Goals as goal
use Rattle.affc_trace.proofs.Contents.{run_of_effects_law}

pub returns : goal.returns
returns c = record { law = run_of_effects_law }
