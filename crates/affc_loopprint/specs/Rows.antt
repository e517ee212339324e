-- Rows of ends that are few and small enough to be printed.
use Rattle.std.specs.Prelude.{◌≡◌, ◌^◌, ◌≤◌, ℕ, suc, List, [], ◌∷◌, length, unsigned_abs}
use Rattle.std.specs.List.{All}
use Rattle.affc_rows.specs.Forms.{Affine}
use Rattle.affc_loops.specs.Ends.{Sides, BoundsBelow, BoundsAbove}
use Rattle.affc_loops.specs.Loops.{Scheduled}

-- over the columns up to this one, with coefficients up to 2^40 in magnitude, and a constant up to 2^59
pub record IsPrintable (column : ℕ) (row : Affine) : Type 0 where
  pub width : length row.coefs ≡ suc column
  pub coefs : All (λ c. unsigned_abs c ≤ 2 ^ 40) row.coefs
  pub constant : unsigned_abs row.constant ≤ 2 ^ 59

-- at most eight rows that bound the column from below, and at most eight that bound it from above
pub record ArePrintable (column : ℕ) (sides : Sides) : Type 0 where
  pub few_lower : length sides.0 ≤ 8
  pub few_upper : length sides.1 ≤ 8
  pub lower : All (IsPrintable column) sides.0
  pub upper : All (IsPrintable column) sides.1
  pub below : All (BoundsBelow column) sides.0
  pub above : All (BoundsAbove column) sides.1

-- of one column after the other
abbrev pub ArePrintableFrom : (column : ℕ) → List Sides → Type 0
ArePrintableFrom column [] = Unit {0}
ArePrintableFrom column (s ∷ ss) = ArePrintable column s × ArePrintableFrom (suc column) ss

-- for each statement those of each of so many components, which have the columns behind these first ones
abbrev pub ArePrintableOfEach : (first components : ℕ) → List Scheduled → (rows : List (List Sides)) → Type 0
ArePrintableOfEach first components [] [] = Unit {0}
ArePrintableOfEach first components [] (ss ∷ sss) = ⊥
ArePrintableOfEach first components (e ∷ es) [] = ⊥
ArePrintableOfEach first components (e ∷ es) (ss ∷ sss) = (length ss ≡ components) × ArePrintableFrom first ss × ArePrintableOfEach first components es sss
