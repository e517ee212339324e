use Rattle.affc_sched.proofs.LegalLemmas as lemma
use Rattle.affc_sched.proofs.laws.points_violate.Goals as goal

pub returns : goal.returns
returns c = record { law = lemma.points_violate }
