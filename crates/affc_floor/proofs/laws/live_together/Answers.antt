use Rattle.affc_floor.proofs.LiveLemmas.{live_together_law}
use Rattle.affc_floor.proofs.laws.live_together.Goals as goal

pub returns : goal.returns
returns c = record { law = live_together_law }
