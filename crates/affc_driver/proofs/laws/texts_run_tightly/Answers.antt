use Rattle.affc_driver.proofs.Compiled as lemma
use Rattle.affc_driver.proofs.laws.texts_run_tightly.Goals as goal

pub returns : goal.returns
returns g c = record { law = lemma.texts_run_tightly c.folds_run_tightly.ensures.law g.C.Costing.answers }
