use Rattle.affc_driver.proofs.Complete as lemma
use Rattle.affc_driver.proofs.laws.folded_is_foldable.Goals as goal

pub returns : goal.returns
returns g c = record { law = lemma.folded_is_foldable g.C.Costing.answers }
