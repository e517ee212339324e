use Rattle.affc_floor.proofs.Places.{wanted_is_live}
use Rattle.affc_floor.proofs.laws.wanted_is_live.Goals as goal

pub returns : goal.returns
returns c = record { law = wanted_is_live }
