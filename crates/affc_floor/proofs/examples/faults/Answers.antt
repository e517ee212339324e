use Rattle.affc_floor.proofs.ExampleProofs.{first_faults, events_in_order, first_lows}
use Rattle.affc_floor.proofs.examples.faults.Goals as goal

pub returns : goal.returns
returns c = record { first = first_faults; in_order = events_in_order; lows = first_lows }
