use Rattle.affc_legal.proofs.ProofLemmas.{proofs_show_legality}
use Rattle.affc_legal.proofs.laws.proofs_show_legality.Goals as goal

pub returns : goal.returns
returns c = record { law = proofs_show_legality }
