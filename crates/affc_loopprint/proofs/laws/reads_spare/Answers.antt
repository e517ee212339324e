use Rattle.affc_loopprint.proofs.SpareReads as lemma
use Rattle.affc_loopprint.proofs.laws.reads_spare.Goals as goal

pub returns : goal.returns
returns c = record { law = lemma.reads_spare }
