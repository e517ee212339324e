use Rattle.affc_sched.proofs.LegalLemmas as lemma
use Rattle.affc_sched.proofs.laws.questions_decide.Goals as goal

pub returns : goal.returns
returns c = record { law = lemma.questions_decide }
