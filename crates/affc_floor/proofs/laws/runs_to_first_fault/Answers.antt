use Rattle.affc_floor.proofs.Whole.{runs_to_first_fault}
use Rattle.affc_floor.proofs.laws.runs_to_first_fault.Goals as goal

pub returns : goal.returns
returns c = record { law = runs_to_first_fault }
