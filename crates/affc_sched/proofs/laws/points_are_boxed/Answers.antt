use Rattle.affc_sched.proofs.LegalLemmas as lemma
use Rattle.affc_sched.proofs.laws.points_are_boxed.Goals as goal

pub returns : goal.returns
returns c = record { law = lemma.points_are_boxed }
