use Rattle.affc_foldloops.proofs.RefoldLemmas.{refolded_effect}
use Rattle.affc_foldloops.proofs.laws.refolded_effect.Goals as goal

pub returns : goal.returns
returns c = record { law = refolded_effect }
