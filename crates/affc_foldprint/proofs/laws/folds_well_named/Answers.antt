use Rattle.affc_foldprint.proofs.ScannedFolds as lemma
use Rattle.affc_foldprint.proofs.laws.folds_well_named.Goals as goal

pub returns : goal.returns
returns c = record { law = lemma.folds_well_named c.spare_well_named.ensures.law c.between_well_named.ensures.law }
