use Rattle.affc_basis.proofs.Greatest.{slice_is_found}
use Rattle.affc_basis.proofs.laws.slice_is_found.Goals as goal

pub returns : goal.returns
returns c = record { law = slice_is_found }
