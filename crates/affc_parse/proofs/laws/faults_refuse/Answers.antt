use Rattle.affc_parse.proofs.Refusals.{fault_is_memory}
use Rattle.affc_parse.proofs.laws.faults_refuse.Goals as goal

pub returns : goal.returns
returns c text fault h other program r = other (fault_is_memory text fault program h r)
