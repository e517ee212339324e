use Rattle.affc_trace.proofs.laws.effects_of_trace.Goals as goal
use Rattle.affc_trace.proofs.Contents.{effects_of_trace}

pub returns : goal.returns
returns c = record { law = effects_of_trace }
