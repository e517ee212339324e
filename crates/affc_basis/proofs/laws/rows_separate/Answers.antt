use Rattle.affc_basis.proofs.FoldPlaces.{rows_separate_law}
use Rattle.affc_basis.proofs.laws.rows_separate.Goals as goal

pub returns : goal.returns
returns c = record { law = rows_separate_law }
