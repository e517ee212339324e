-- How far apart the elements of pairs lie along a row, as forms.
use Rattle.std.specs.Prelude.{◌≡◌, ℕ, ◌≤◌, ℤ, pos, unsigned_abs, List, length, slice_get, Option, Some, None}
use Rattle.affc_rows.specs.Forms.{Affine, value}
use Rattle.affc_system.specs.declared.pairs.PairSystem.{PairSystem}
use Rattle.affc_split.specs.maximum.Regions.{InRegion}
use Rattle.affc_split.specs.declared.maximum.region.Region.{Region}
use Rattle.affc_split.specs.declared.maximum.several.Found.{Found}
use Rattle.affc_moduli.specs.Slices.{AreParallel}
use Rattle.affc_conflicts.specs.differences.Differences.{apart, IsSmall}

-- the form is the value of the row at xs less that at ys
pub record IsDifference (columns : ℕ) (cs : List ℤ) (xs ys : List Affine) (f : Affine) : Type 0 where
  pub small : IsSmall columns 4 f
  pub holds : (z : List ℤ) → length z ≡ columns → value f z ≡ apart cs xs ys z

-- a form for each system, and the other way round
abbrev pub IsForward : List ℤ → PairSystem → Affine → Type 0
IsForward cs s f = IsDifference s.system.columns cs s.x.items s.y.items f

abbrev pub IsBackward : List ℤ → PairSystem → Affine → Type 0
IsBackward cs s f = IsDifference s.system.columns cs s.y.items s.x.items f

abbrev pub AreForward : List PairSystem → List ℤ → List Affine → Type 0
AreForward systems cs forms = AreParallel (IsForward cs) systems forms

abbrev pub AreBackward : List PairSystem → List ℤ → List Affine → Type 0
AreBackward systems cs forms = AreParallel (IsBackward cs) systems forms

-- no elements of a region lie farther apart
abbrev pub AreApartWithin : List PairSystem → List Region → List ℤ → (most : ℕ) → Type 0
AreApartWithin systems regions cs most = (i : ℕ) (s : PairSystem) (r : Region) (z : List ℤ) → slice_get systems i ≡ Some s → slice_get regions i ≡ Some r → InRegion r z
    → unsigned_abs (apart cs s.x.items s.y.items z) ≤ most

-- the elements at a point of a region lie so far apart
pub record IsApartAt (systems : List PairSystem) (regions : List Region) (cs : List ℤ) (number : ℕ) (z : List ℤ) (distance : ℕ) : Type 0 where
  pub system : PairSystem
  pub region : Region
  pub system_there : slice_get systems number ≡ Some system
  pub region_there : slice_get regions number ≡ Some region
  pub inside : InRegion region z
  pub apart_by : unsigned_abs (apart cs system.x.items system.y.items z) ≡ distance

-- the greatest distance, with a point that has it where it isn't 0
abbrev pub IsFarthest : List PairSystem → List Region → List ℤ → Option Found → Type 0
IsFarthest systems regions cs None = AreApartWithin systems regions cs 0
IsFarthest systems regions cs (Some f) = (distance : ℕ) × (f.value ≡ pos distance) × (1 ≤ distance) × AreApartWithin systems regions cs distance × IsApartAt systems regions cs f.number f.point.items distance

-- the two elements of each system have one subscript for each dimension
abbrev pub HaveDimensions : List PairSystem → (dimensions : ℕ) → Type 0
HaveDimensions systems n = (i : ℕ) (s : PairSystem) → slice_get systems i ≡ Some s → (length s.x.items ≡ n) × (length s.y.items ≡ n)

-- each region has its system's columns
abbrev pub AreOver : List PairSystem → List Region → Type 0
AreOver systems regions = (i : ℕ) (s : PairSystem) (r : Region) → slice_get systems i ≡ Some s → slice_get regions i ≡ Some r → r.system.columns ≡ s.system.columns

-- the value of what is found, or 0
abbrev pub level : Option Found → ℤ
level None = pos 0
level (Some f) = f.value
