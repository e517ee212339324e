use Rattle.affc_foldloops.proofs.FoldedLaws.{refolded_between_compile}
use Rattle.affc_foldloops.proofs.laws.refolded_between_compile.Goals as goal

pub returns : goal.returns
returns c = record { law = refolded_between_compile }
