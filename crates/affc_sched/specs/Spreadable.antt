-- Rows that can be put into a system.
use Rattle.std.specs.Prelude.{ℕ, ◌≤◌, length}
use Rattle.affc_rows.specs.Forms.{Affine}
use Rattle.affc_system.specs.Systems.{IsRow}
use Rattle.affc_order.specs.Spread.{spread}

-- the row has the parameters' columns, and with so many columns more it is a row over these
pub record IsSpreadable (params between behind columns : ℕ) (row : Affine) : Type 0 where
  pub params_there : params ≤ length row.coefs
  pub fits : IsRow columns (spread params between behind row)
