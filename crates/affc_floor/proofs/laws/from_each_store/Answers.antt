use Rattle.affc_floor.proofs.Whole.{first_fault_stops, no_fault_ends}
use Rattle.affc_floor.proofs.laws.from_each_store.Goals as goal

pub returns : goal.returns
returns c = record { stops = first_fault_stops; ends = no_fault_ends }
