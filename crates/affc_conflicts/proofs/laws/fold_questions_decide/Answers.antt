use Rattle.affc_conflicts.proofs.Decided.{fold_questions_decide}
use Rattle.affc_conflicts.proofs.laws.fold_questions_decide.Goals as goal

pub returns : goal.returns
returns c = record { law = fold_questions_decide }
