use Rattle.affc_driver.proofs.Complete as lemma
use Rattle.affc_driver.proofs.laws.foldable_is_folded.Goals as goal

pub returns : goal.returns
returns g c = record { law = lemma.foldable_is_folded c.folds_keep_times.ensures.law c.programs_scan.ensures.law c.same_loops_scan.ensures.law c.folds_well_named.ensures.law c.folds_compile.ensures.law g.C.Costing.answers }
