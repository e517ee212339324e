use Rattle.affc_bounds.proofs.LawProofs as lemma
use Rattle.affc_bounds.proofs.laws.one_fault.Goals as goal

pub returns : goal.returns
returns c = record { none = lemma.faults_do_not_stay; one = lemma.one_fault }
