use Rattle.affc_floor.proofs.Lows.{low_extent_stops}
use Rattle.affc_floor.proofs.laws.low_extent_stops.Goals as goal

pub returns : goal.returns
returns c = record { law = low_extent_stops }
