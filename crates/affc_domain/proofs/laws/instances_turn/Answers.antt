use Rattle.affc_domain.proofs.TurnLemmas.{instances_turn}
use Rattle.affc_domain.proofs.laws.instances_turn.Goals as goal

pub returns : goal.returns
returns c = record { law = instances_turn }
