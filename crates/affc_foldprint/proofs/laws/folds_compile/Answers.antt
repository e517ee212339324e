use Rattle.affc_foldprint.proofs.ScannedFolds as lemma
use Rattle.affc_foldprint.proofs.laws.folds_compile.Goals as goal

pub returns : goal.returns
returns c = record { law = lemma.folds_compile c.scans_run_between.ensures.law }
