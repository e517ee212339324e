use Rattle.affc_bounds.proofs.LawProofs as lemma
use Rattle.affc_bounds.proofs.laws.faults_are_stuck.Goals as goal

pub returns : goal.returns
returns c = record { narrow = lemma.narrow_is_stuck; outside = lemma.outside_is_stuck }
