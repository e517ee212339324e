use Rattle.affc_foldloops.proofs.PlacedLaws.{between_run_placed}
use Rattle.affc_foldloops.proofs.laws.between_run_placed.Goals as goal

pub returns : goal.returns
returns c = record { law = between_run_placed }
