use Rattle.affc_loops.proofs.BetweenLaws.{between_run_target}
use Rattle.affc_loops.proofs.laws.between_run_target.Goals as goal

pub returns : goal.returns
returns c = record { law = between_run_target }
