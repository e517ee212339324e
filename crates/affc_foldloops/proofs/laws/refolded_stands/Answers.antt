use Rattle.affc_foldloops.proofs.StandsLemmas.{refolded_stands}
use Rattle.affc_foldloops.proofs.laws.refolded_stands.Goals as goal

pub returns : goal.returns
returns c = record { law = refolded_stands }
