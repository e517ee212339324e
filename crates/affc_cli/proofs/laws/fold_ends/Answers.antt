use Rattle.affc_driver.proofs.Complete.{unlimited_folds_all, unlimited_is_not_refused}
use Rattle.affc_cli.specs.Budgets.{answers_of}
use Rattle.affc_cli.proofs.LawProofs as lemma
use Rattle.affc_cli.proofs.laws.fold_ends.Goals as goal

pub returns : goal.returns
returns c = record { law = lemma.fold_ends unlimited_is_not_refused (λ cost. unlimited_folds_all (answers_of cost)) }
