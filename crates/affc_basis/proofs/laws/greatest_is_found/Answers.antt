use Rattle.affc_basis.proofs.Greatest.{greatest_is_found}
use Rattle.affc_basis.proofs.laws.greatest_is_found.Goals as goal

pub returns : goal.returns
returns c = record { law = greatest_is_found }
