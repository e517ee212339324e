use Rattle.affc_system.proofs.SystemLemmas.{all_from_met, met_from_all}
use Rattle.affc_system.proofs.laws.met_rows_are_all_met.Goals as goal

pub returns : goal.returns
returns c = λ point rows. (all_from_met point rows, met_from_all point rows)
