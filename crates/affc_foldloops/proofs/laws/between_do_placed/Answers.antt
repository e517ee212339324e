use Rattle.affc_foldloops.proofs.PlacedLaws.{between_do_placed}
use Rattle.affc_foldloops.proofs.laws.between_do_placed.Goals as goal

pub returns : goal.returns
returns c = record { law = between_do_placed }
