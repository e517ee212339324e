-- Rows that are nowhere both at least 0, since they are parallel.
use Rattle.std.specs.Prelude.{◌≡◌, ℕ, pos, ◌<ℤ◌, ◌+ℤ◌, List, slice_get, Some}
use Rattle.affc_rows.specs.Forms.{Affine}
use Rattle.affc_rows.specs.Vocabulary.{AreOpposite}

-- the row at this place is parallel to a row the other way round, and their constants sum to less than 0
pub record IsBarredAt (rows : List Affine) (row : Affine) (place : ℕ) : Type 0 where
  pub other : Affine
  pub there : slice_get rows place ≡ Some other
  pub opposite : AreOpposite other.coefs row.coefs
  pub low : (other.constant +ℤ row.constant) <ℤ pos 0
