use Rattle.affc_folds.proofs.AllFolds as lemma
use Rattle.affc_folds.proofs.laws.folds_exist.Goals as goal

pub returns : goal.returns
returns g c = record { law = lemma.folds_exist g.C.Costing.answers }
