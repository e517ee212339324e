use Rattle.affc_foldloops.proofs.ReplaceLemmas.{refolded_replaces}
use Rattle.affc_foldloops.proofs.laws.refolded_replaces.Goals as goal

pub returns : goal.returns
returns c = record { law = refolded_replaces }
