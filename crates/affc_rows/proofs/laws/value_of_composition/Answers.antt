use Rattle.affc_rows.proofs.ValueLemmas.{value-composed}
use Rattle.affc_rows.proofs.laws.value_of_composition.Goals as goal

pub returns : goal.returns
returns c = value-composed
