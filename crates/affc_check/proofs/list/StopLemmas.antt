-- What it says of a part that its items aren't listed.
use Rattle.std.proofs.Common.{◌≡◌, ℕ, refl}
use Rattle.affc_check.specs.list.Stops.{part_stop}
use Rattle.affc_check.specs.declared.list.stop.PartStop.TheVariants.{Part}
use Rattle.affc_check.specs.declared.list.stop.Stop.{Stop}
use Rattle.affc_check.specs.declared.list.stop.Stop.TheVariants.{Past, Memory}

pub stop_is : (s : Stop) (part n : ℕ) → part_stop s part ≡ Part n → (n ≡ part) × (s ≡ Past)
stop_is Past part n e = (cc, refl)
stop_is Memory part n e = absurd (cc)

-- a part is told by its number
pub part_same : (a b : ℕ) → Part a ≡ Part b → b ≡ a
part_same a b e = cc
