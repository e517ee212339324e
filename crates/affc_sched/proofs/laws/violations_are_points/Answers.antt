use Rattle.affc_sched.proofs.LegalLemmas as lemma
use Rattle.affc_sched.proofs.laws.violations_are_points.Goals as goal

pub returns : goal.returns
returns c = record { law = lemma.violations_are_points }
