use Rattle.affc_driver.proofs.Compiled as lemma
use Rattle.affc_driver.proofs.laws.printed_compiles.Goals as goal

pub returns : goal.returns
returns g c = record { law = lemma.printed_compiles c.folds_well_named.ensures.law c.folds_compile.ensures.law g.C.Costing.answers }
