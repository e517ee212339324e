use Rattle.affc_loopprint.proofs.reprint.Reprinted as lemma
use Rattle.affc_loopprint.proofs.reprint.laws.reads_well_named.Goals as goal

pub returns : goal.returns
returns c = record { law = lemma.reads_well_named }
