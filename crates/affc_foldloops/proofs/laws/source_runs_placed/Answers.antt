use Rattle.affc_foldloops.proofs.PlacedLaws.{source_runs_placed}
use Rattle.affc_foldloops.proofs.laws.source_runs_placed.Goals as goal

pub returns : goal.returns
returns c = record { law = source_runs_placed }
