-- The slice of a row, as regions.
use Rattle.std.specs.Prelude.{◌≡◌, ℕ, ◌+◌, ◌*◌, ◌<◌, ◌≤◌, ◌↔◌, ℤ, List, [], ◌∷◌, ◌++◌, length, take, slice_get, Some}
use Rattle.affc_rows.specs.Forms.{Affine, values_of}
use Rattle.affc_system.specs.Systems.{Rows, IsPoint}
use Rattle.affc_system.specs.declared.pairs.PairSystem.{PairSystem}
use Rattle.affc_split.specs.maximum.Regions.{InRegion}
use Rattle.affc_split.specs.declared.maximum.region.Region.{Region}
use Rattle.affc_basis.specs.Slices.{along}
use Rattle.affc_conflicts.specs.Conditions.{InContext}

-- the two elements at the point lie apart along no row before the k-th
abbrev pub AgreeAt : PairSystem → List Affine → (k : ℕ) → (z : List ℤ) → Type 0
AgreeAt s rows k z = (j : ℕ) (row : Affine) → j < k → slice_get rows j ≡ Some row → along row (values_of s.x.items z) (values_of s.y.items z) ≡ 0

-- a point of the system in the context, at which the elements lie apart along no row before the k-th
pub record InSliceAt (context : Rows) (ranges : List (ℤ × ℤ)) (s : PairSystem) (rows : List Affine) (k : ℕ) (z : List ℤ) : Type 0 where
  pub meets : IsPoint s.system z
  pub in_context : InContext context ranges (take context.columns z)
  pub agrees : AgreeAt s rows k z

-- the region holds exactly these points
pub record IsSlice (context : Rows) (ranges : List (ℤ × ℤ)) (rows : List Affine) (k : ℕ) (s : PairSystem) (region : Region) : Type 0 where
  pub columns : region.system.columns ≡ s.system.columns
  pub few : length region.system.rows ≤ length s.system.rows + length context.rows + 2 * k
  pub holds : (z : List ℤ) → InRegion region z ↔ InSliceAt context ranges s rows k z

-- one region for each system
pub record AreSlices (context : Rows) (ranges : List (ℤ × ℤ)) (rows : List Affine) (k : ℕ) (systems : List PairSystem) (regions : List Region) : Type 0 where
  pub one_each : length regions ≡ length systems
  pub slices : (i : ℕ) (s : PairSystem) (r : Region) → slice_get systems i ≡ Some s → slice_get regions i ≡ Some r → IsSlice context ranges rows k s r

-- ---- How the regions are made

-- what holds of the elements of two lists at one place
abbrev pub AreParallel : {A B : Type 0} → (A → B → Type 0) → List A → List B → Type 0
AreParallel {A} {B} P xs ys = (i : ℕ) (a : A) (b : B) → slice_get xs i ≡ Some a → slice_get ys i ≡ Some b → P a b

-- the region is the system with its box
pub record IsCopy (s : PairSystem) (r : Region) : Type 0 where
  pub system : r.system ≡ s.system
  pub ranges : r.ranges ≡ s.ranges

abbrev pub AreCopies : List PairSystem → List Region → Type 0
AreCopies systems regions = (length regions ≡ length systems) × AreParallel IsCopy systems regions

-- a region with two rows more
pub record IsNarrowed (region : Region) (f g : Affine) (narrower : Region) : Type 0 where
  pub system : narrower.system ≡ record region.system { rows = region.system.rows ++ f ∷ g ∷ [] }
  pub ranges : narrower.ranges ≡ region.ranges

-- with the two rows that lie at one place
abbrev pub IsNarrowedAt : List Affine → List Affine → ℕ → Region → Region → Type 0
IsNarrowedAt fs gs i region narrower = (f g : Affine) → slice_get fs i ≡ Some f → slice_get gs i ≡ Some g → IsNarrowed region f g narrower

abbrev pub AreNarrowed : List Region → List Affine → List Affine → List Region → Type 0
AreNarrowed regions fs gs narrower = (length narrower ≡ length regions) × ((i : ℕ) (r n : Region) → slice_get regions i ≡ Some r → slice_get narrower i ≡ Some n → IsNarrowedAt fs gs i r n)

-- the first n elements of a list are changed as P says, and the others are as they were
pub record AreChanged {A : Type 0} (P : ℕ → A → A → Type 0) (n : ℕ) (before after : List A) : Type 0 where
  pub one_each : length after ≡ length before
  pub changed : (i : ℕ) (a b : A) → i < n → slice_get before i ≡ Some a → slice_get after i ≡ Some b → P i a b
  pub left : (i : ℕ) → n ≤ i → slice_get after i ≡ slice_get before i
