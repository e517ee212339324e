use Rattle.affc_check.proofs.Read as lemma
use Rattle.affc_check.proofs.laws.certs_are_read.Goals as goal

pub returns : goal.returns
returns c = record { law = lemma.certs_are_read }
