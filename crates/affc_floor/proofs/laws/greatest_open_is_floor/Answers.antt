use Rattle.affc_floor.proofs.Counts.{greatest_open_is_floor, none_open_is_none}
use Rattle.affc_floor.proofs.laws.greatest_open_is_floor.Goals as goal

pub returns : goal.returns
returns c = record { law = greatest_open_is_floor; none = none_open_is_none }
