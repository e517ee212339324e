-- The conditions of successive moduli, together.
use Rattle.std.specs.Prelude.{◌≡◌, ◌≤◌, ℤ, List, length}
use Rattle.std.specs.List.{All}
use Rattle.affc_rows.specs.Forms.{Affine, HaveColumns}
use Rattle.affc_system.specs.Systems.{Rows}
use Rattle.affc_system.specs.Pairs.{IsSubscript}
use Rattle.affc_system.specs.declared.pairs.PairSystem.{PairSystem}
use Rattle.affc_basis.specs.Bases.{HaveCoefsWithin}
use Rattle.affc_conflicts.specs.Conditions.{IsNear, IsConflict}

pub record AreReady (context : Rows) (ranges : List (ℤ × ℤ)) (extents rows : List Affine) (systems : List PairSystem) : Type 0 where
  pub parameters : length ranges ≡ context.columns
  pub few : context.columns ≤ 4
  pub near : All IsNear ranges
  pub subscripts : All (IsSubscript context.columns) extents
  pub dimensions : length extents ≡ length rows
  pub few_rows : length rows ≤ 4
  pub row_columns : HaveColumns (length rows) rows
  pub row_bounds : HaveCoefsWithin 256 rows
  pub conflicts : All (IsConflict context ranges extents) systems
