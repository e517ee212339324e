use Rattle.affc_foldprint.proofs.Scanned as lemma
use Rattle.affc_foldprint.proofs.laws.folds_keep_times.Goals as goal

pub returns : goal.returns
returns c = record { law = lemma.folds_keep_times }
