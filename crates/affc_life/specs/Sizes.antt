-- Systems that pass the limits of a system.
use Rattle.std.specs.Prelude.{◌⊎◌, ◌<◌, List, length}
use Rattle.std.specs.List.{All}
use Rattle.affc_system.specs.Systems.{Rows, FitsRow}
use Rattle.affc_trace.specs.Law.{IsIn}
use Rattle.affc_life.specs.Clashes.{Clash}

-- too many columns, too many rows, or an entry of a row past its limit
abbrev pub IsLarge : Rows → Type 0
IsLarge s = (128 < s.columns) ⊎ ((1024 < length s.rows) ⊎ (¬ (All FitsRow s.rows)))

-- one of these clash systems
pub record AnyLarge (clashes : List Clash) : Type 0 where
  pub clash : Clash
  pub there : IsIn clash clashes
  pub large : IsLarge clash.system
