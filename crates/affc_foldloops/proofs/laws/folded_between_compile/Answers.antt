use Rattle.affc_foldloops.proofs.FoldedLaws.{folded_between_compile}
use Rattle.affc_foldloops.proofs.laws.folded_between_compile.Goals as goal

pub returns : goal.returns
returns c = record { law = folded_between_compile }
