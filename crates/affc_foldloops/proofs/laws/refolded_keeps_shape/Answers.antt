use Rattle.affc_foldloops.proofs.RefoldLemmas.{refolded_keeps_shape}
use Rattle.affc_foldloops.proofs.laws.refolded_keeps_shape.Goals as goal

pub returns : goal.returns
returns c = record { law = refolded_keeps_shape }
