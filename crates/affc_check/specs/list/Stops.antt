-- Why the items of a part aren't listed.
use Rattle.std.specs.Prelude.{ℕ}
use Rattle.affc_check.specs.declared.list.stop.PartStop.{PartStop}
use Rattle.affc_check.specs.declared.list.stop.PartStop.TheVariants as of_parts
use Rattle.affc_check.specs.declared.list.stop.Stop.{Stop}
use Rattle.affc_check.specs.declared.list.stop.Stop.TheVariants.{Past, Memory}

-- of the part with this number
abbrev pub part_stop : Stop → ℕ → PartStop
part_stop Past part = of_parts.Part part
part_stop Memory part = of_parts.Memory
