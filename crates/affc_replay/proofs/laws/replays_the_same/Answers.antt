use Rattle.affc_replay.proofs.Again as lemma
use Rattle.affc_replay.proofs.laws.replays_the_same.Goals as goal

pub returns : goal.returns
returns g c = record { law = lemma.replays_the_same g.C.Costing.answers }
