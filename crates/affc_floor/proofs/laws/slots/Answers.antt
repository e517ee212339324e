use Rattle.std.specs.Prelude.{ℕ, ℤ, List}
use Rattle.affc_floor.proofs.LiveLemmas.{slots}
use Rattle.affc_floor.proofs.laws.slots.Goals as goal

pub returns : goal.returns
returns c = record { law = slots ℕ; places = slots (List ℤ) }
