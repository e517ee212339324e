use Rattle.affc_foldprint.proofs.ScannedFolds as lemma
use Rattle.affc_foldprint.proofs.laws.folds_run_tightly.Goals as goal

pub returns : goal.returns
returns c = record { law = lemma.folds_run_tightly c.turns_extend.ensures.law }
