use Rattle.affc_system.proofs.BoxLemmas.{corner_in_box}
use Rattle.affc_system.proofs.laws.corner_in_box.Goals as goal

pub returns : goal.returns
returns c = corner_in_box
