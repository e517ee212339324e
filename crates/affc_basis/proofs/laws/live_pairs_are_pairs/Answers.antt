use Rattle.affc_basis.proofs.FoldPlaces.{live_pairs_are_different, places_are_admissible}
use Rattle.affc_basis.proofs.Whole.{live_pairs_lie_within}
use Rattle.affc_basis.proofs.laws.live_pairs_are_pairs.Goals as goal

pub returns : goal.returns
returns c = record { different = live_pairs_are_different; within = live_pairs_lie_within; admissible = places_are_admissible }
