-- Regions: the integer points of a system in a box, and the greatest value of a form there.
use Rattle.std.specs.Prelude.{◌≡◌, ℕ, ◌^◌, ◌<◌, ◌≤◌, List, slice_get, length, ℤ, ◌≤ℤ◌, ◌<ℤ◌, unsigned_abs, Option, Some, None}
use Rattle.std.specs.List.{All}
use Rattle.affc_rows.specs.Forms.{Affine, value}
use Rattle.affc_system.specs.Systems.{IsPoint}
use Rattle.affc_system.specs.Boxes.{InBox}
use Rattle.affc_system.specs.Order.{LexLe}
use Rattle.affc_split.specs.declared.maximum.region.Region.{Region}
use Rattle.affc_split.specs.declared.maximum.search.Best.{Best}

-- an integer point of the region
pub record InRegion (region : Region) (z : List ℤ) : Type 0 where
  pub meets : IsPoint region.system z
  pub inside : InBox region.ranges z

-- a form over so many columns, whose value may be compared with a number within 2^58
pub record IsMeasure (columns : ℕ) (form : Affine) : Type 0 where
  pub width : length form.coefs ≡ columns
  pub coefs_fit : All (λ c. unsigned_abs c ≤ 2 ^ 40) form.coefs
  pub constant_fits : unsigned_abs form.constant ≤ 2 ^ 58

-- the form's value is nowhere in the region greater
abbrev pub IsBounded : Region → Affine → ℤ → Type 0
IsBounded region form most = (z : List ℤ) → InRegion region z → value form z ≤ℤ most

-- a value that is attained there, and isn't passed
pub record IsMost (region : Region) (form : Affine) (most : ℤ) (z : List ℤ) : Type 0 where
  pub bounded : IsBounded region form most
  pub inside : InRegion region z
  pub attained : value form z ≡ most

-- the lexicographically least point of the region at which the form is at least a number
pub record IsFirstReaching (region : Region) (form : Affine) (at : ℤ) (z : List ℤ) : Type 0 where
  pub inside : InRegion region z
  pub reaches : at ≤ℤ value form z
  pub least : (w : List ℤ) → InRegion region w → at ≤ℤ value form w → LexLe z w

-- the greatest value, where it is above the floor
abbrev pub IsAnswer : Region → Affine → (floor : ℤ) → Option Best → Type 0
IsAnswer region form floor None = IsBounded region form floor
IsAnswer region form floor (Some b) = (floor <ℤ b.value) × IsMost region form b.value b.point.items

-- ---- Several regions, with a form for each

-- a form for which its region may be asked
pub record IsAskable (region : Region) (form : Affine) (ceiling : ℤ) : Type 0 where
  pub measure : IsMeasure region.system.columns form
  pub room : length region.system.rows < 1024
  pub bounded : IsBounded region form ceiling

abbrev pub AreAskable : List Region → List Affine → (ceiling : ℤ) → Type 0
AreAskable regions forms ceiling = (i : ℕ) (r : Region) (f : Affine) → slice_get regions i ≡ Some r → slice_get forms i ≡ Some f → IsAskable r f ceiling

-- no form is anywhere in its region greater
abbrev pub AreBounded : List Region → List Affine → (most : ℤ) → Type 0
AreBounded regions forms most = (i : ℕ) (r : Region) (f : Affine) → slice_get regions i ≡ Some r → slice_get forms i ≡ Some f → IsBounded r f most
