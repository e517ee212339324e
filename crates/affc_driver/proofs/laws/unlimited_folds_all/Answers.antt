use Rattle.affc_driver.proofs.Complete as lemma
use Rattle.affc_driver.proofs.laws.unlimited_folds_all.Goals as goal

pub returns : goal.returns
returns g c = record { law = lemma.unlimited_folds_all g.C.Costing.answers }
