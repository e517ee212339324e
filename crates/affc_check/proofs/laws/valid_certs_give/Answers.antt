use Rattle.affc_check.proofs.Read as lemma
use Rattle.affc_check.proofs.laws.valid_certs_give.Goals as goal

pub returns : goal.returns
returns c = record { law = lemma.valid_certs_give }
