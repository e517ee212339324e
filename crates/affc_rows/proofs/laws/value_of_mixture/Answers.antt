use Rattle.affc_rows.proofs.ValueLemmas.{value-mixed}
use Rattle.affc_rows.proofs.laws.value_of_mixture.Goals as goal

pub returns : goal.returns
returns c = value-mixed
