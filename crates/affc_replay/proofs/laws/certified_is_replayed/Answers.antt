use Rattle.affc_replay.proofs.Again as lemma
use Rattle.affc_replay.proofs.laws.certified_is_replayed.Goals as goal

pub returns : goal.returns
returns g c = record { law = lemma.certified_is_replayed c.folds_well_named.ensures.law c.folds_compile.ensures.law g.C.Costing.answers }
