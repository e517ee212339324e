use Rattle.affc_folds.proofs.AllFolds as lemma
use Rattle.affc_folds.proofs.laws.stored_answers.Goals as goal

pub returns : goal.returns
returns c = record { law = lemma.stored_answers }
