-- Instances by forms, as the code holds them, and what is asked of them.
use Rattle.std.specs.Prelude.{◌≡◌, ℕ, ◌+◌, ◌<◌, ◌≤◌, IsTrue, List, length, Some, slice_get}
use Rattle.std.specs.List.{All}
use Rattle.affc_rows.specs.Forms.{Affine, HaveColumns}
use Rattle.affc_system.specs.Systems.{IsRow}
use Rattle.affc_trace.specs.declared.schedule.TimeMap.{TimeMap}
use Rattle.affc_trace.specs.Target.{all_slight}
use Rattle.affc_nest.specs.declared.nest.Nest.{Nest}
use Rattle.affc_nest.specs.Parts.{statement_of}
use Rattle.affc_order.specs.declared.order.Placed.{Placed}
use Rattle.affc_order.specs.Posed.{Posed}
use Rattle.affc_order.specs.Systems.{loops_of, coordinates_of}

abbrev pub posed : Placed → Posed
posed a = record { part = a.part; iterators = a.forms.now }

-- its part has an entry, and there is a form for each of its coordinates, within the limits of rows
pub record IsPlaced (nest : Nest) (columns : ℕ) (a : Posed) : Type 0 where
  pub part : a.part < length nest.entries
  pub each : length a.iterators ≡ coordinates_of nest a.part
  pub rows : All (IsRow columns) a.iterators

-- few forms over so many columns, within the limits of rows, by which the columns of others can be replaced
pub record AreImages (columns : ℕ) (images : List Affine) : Type 0 where
  pub few : length images ≤ 10
  pub rows : All (IsRow columns) images

-- a system's rows: few, over so many columns, within the limits of rows
pub record IsOrder (columns : ℕ) (rows : List Affine) : Type 0 where
  pub few : length rows ≤ 26
  pub fit : All (IsRow columns) rows

-- the time map of a part's statement: slight forms over the parameters and the iterators of its loops
pub record HasMap (nest : Nest) (maps : List TimeMap) (part : ℕ) : Type 0 where
  pub time_map : TimeMap
  pub there : slice_get maps (statement_of nest part) ≡ Some time_map
  pub columns : HaveColumns (length nest.params + length (loops_of nest part)) time_map.forms
  pub slight : IsTrue (all_slight time_map.forms)

-- the same, whose times have so many components
pub record IsTimed (nest : Nest) (components : ℕ) (maps : List TimeMap) (part : ℕ) : Type 0 where
  pub has : HasMap nest maps part
  pub long : length has.time_map.forms ≡ components
