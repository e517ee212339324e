use Rattle.affc_quast.proofs.RangeLemmas as lemma
use Rattle.affc_quast.proofs.laws.leaves_are_over.Goals as goal

pub returns : goal.returns
returns c = record { law = lemma.leaves_are_over }
