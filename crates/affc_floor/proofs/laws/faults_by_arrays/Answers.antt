use Rattle.affc_floor.proofs.Whole.{faults_by_arrays}
use Rattle.affc_floor.proofs.laws.faults_by_arrays.Goals as goal

pub returns : goal.returns
returns c = record { law = faults_by_arrays }
