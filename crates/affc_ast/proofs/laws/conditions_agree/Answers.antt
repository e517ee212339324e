use Rattle.affc_ast.proofs.ConditionReadings.{condition_is_true}
use Rattle.affc_ast.proofs.laws.conditions_agree.Goals as goal

pub returns : goal.returns
returns c = condition_is_true
