use Rattle.affc_leaf.proofs.Hard.{contradiction_is_not_hard, half_is_hard}
use Rattle.affc_leaf.proofs.examples.elimination.Goals as goal

pub returns : goal.returns
returns c = record { contradiction_is_not_hard = contradiction_is_not_hard; half_is_hard = half_is_hard }
