use Rattle.affc_foldprint.proofs.Scanned as lemma
use Rattle.affc_foldprint.proofs.laws.folds_are_scanned.Goals as goal

pub returns : goal.returns
returns c = record { law = lemma.folds_are_scanned }
