use Rattle.affc_foldloops.proofs.FoldedLaws.{folded_source_compiles}
use Rattle.affc_foldloops.proofs.laws.folded_source_compiles.Goals as goal

pub returns : goal.returns
returns c = record { law = folded_source_compiles }
