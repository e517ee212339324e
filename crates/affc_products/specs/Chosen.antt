-- Rows that references point to.
use Rattle.std.specs.Prelude.{List, map}
use Rattle.std.specs.Borrow.{Bor}
use Rattle.affc_rows.specs.Forms.{Affine}

abbrev pub rows_of : List (Bor Affine) → List Affine
rows_of rows = map (λ row. row.now) rows
