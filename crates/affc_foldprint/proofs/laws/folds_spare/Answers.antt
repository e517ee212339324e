use Rattle.affc_foldprint.proofs.Spare as lemma
use Rattle.affc_foldprint.proofs.laws.folds_spare.Goals as goal

pub returns : goal.returns
returns c = record { law = lemma.folds_spare }
