use Rattle.affc_driver.proofs.Complete as lemma
use Rattle.affc_driver.proofs.laws.none_is_cheaper.Goals as goal

pub returns : goal.returns
returns g c = record { law = lemma.none_is_cheaper g.C.Costing.answers }
